-- Bindings that a comparison does not tell apart.
use Rattle.std.proofs.Common.{◌≡◌, true, refl, ap, subst}
use Rattle.std.specs.Prelude.{◌↔◌}
use Rattle.std.specs.Ordering.{ordering_reverse}
use Rattle.std.specs.declared.cmp.Ordering.{Ordering}
use Rattle.std.specs.declared.cmp.Ordering.TheVariants.{Less, Equal, Greater}
use Rattle.rdx_lang.proofs.OrderLaws.{binding_cmp-tells}
use Rattle.rdx_lang.specs.Bindings.{Binding}
use Rattle.rdx_lang.specs.Model.TotalOrders.{binding_cmp-total}
use Rattle.rdx_lang.specs.Order.{binding_cmp}
use Rattle.rdx_bind.specs.Inside.Alike.{is_equal}

-- the comparison found equals
pub told : (o : Ordering) → is_equal o ≡ true → o ≡ Equal
told Less h = absurd cc
told Equal h = refl
told Greater h = absurd cc

turned : (o : Ordering) → o ≡ ordering_reverse o → o ≡ Equal
turned Less h = absurd cc
turned Equal h = refl
turned Greater h = absurd cc

binding_itself : (b : Binding) → binding_cmp b b ≡ Equal
binding_itself b = turned (binding_cmp b b) (binding_cmp-total.antisymm b b)

-- bindings that are not told apart are equal, and no others
pub bindings_alike : (a b : Binding) → (is_equal (binding_cmp a b) ≡ true) ↔ (a ≡ b)
bindings_alike a b = (
  λ h. binding_cmp-tells a b (told (binding_cmp a b) h),
  λ e. subst (λ c. is_equal (binding_cmp a c) ≡ true) e (ap is_equal (binding_itself a)),
)

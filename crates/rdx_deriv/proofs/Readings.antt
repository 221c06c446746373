-- What stands under a node, as a rule asks of it.
use Rattle.std.proofs.Common.{◌≡◌, Bool, ap, subst}
use Rattle.std.specs.Prelude.{◌↔◌, IsTrue, Option, Some, None, IfSome, IfNone, option_map}
use Rattle.rdx_lang.specs.Shown.{binding_of}
use Rattle.rdx_lang.specs.declared.binding.Binding as code
use Rattle.rdx_lang.specs.Bindings.{Binding}
use Rattle.rdx_lang.specs.Join.{IsJoin}
use Rattle.rdx_lang.proofs.JoinLaws.{one_join}

-- what is found of a join is b exactly where this is the join
pub join_found : (r : Bool) (found : Option code.Binding) (c d b : Binding) → IfSome found (λ e. IsJoin c d (binding_of e))
    → IfNone found ((e : Binding) → IsJoin c d e → ⊥) → (IsTrue r ↔ (option_map binding_of found ≡ Some b)) → (IsTrue r ↔ IsJoin c d b)
join_found r None c d b some none h = (λ k. absurd (let e = h.0 k in cc), λ k. absurd (none b k))
join_found r (Some f) c d b some none h = (
  λ k. let e : binding_of f ≡ b = (let g = h.0 k in cc) in subst (λ e. IsJoin c d e) e some,
  λ k. h.1 (ap (λ e. Some e) (one_join c d (binding_of f) b some k)),
)

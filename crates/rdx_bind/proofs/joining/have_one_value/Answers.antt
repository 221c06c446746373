use Rattle.std.proofs.Common.{◌≡◌, ◌⊎◌, inl, inr, refl, sym, ◌∙◌, ap}
use Rattle.std.proofs.lemmas.Cmp.{tied_itself}
use Rattle.std.specs.declared.cmp.Ordering.{Ordering}
use Rattle.std.specs.declared.cmp.Ordering.TheVariants.{Less, Equal, Greater}
use Rattle.rdx_lang.specs.Bindings.{Value}
use Rattle.rdx_lang.specs.BindingView.{value_of}
use Rattle.rdx_lang.specs.Order.{value_cmp}
use Rattle.rdx_lang.proofs.OrderLaws.{value_cmp-tells}
use Rattle.rdx_lang.specs.Model.ValueOrder.{value_cmp-total}
use Rattle.rdx_bind.proofs.joining.have_one_value.Goals as goal

-- values that do not tie differ
differ : (v w : Value) (o : Ordering) → o ≡ value_cmp v w → (o ≡ Less) ⊎ (o ≡ Greater) → v ≡ w → ⊥
differ v w o e x f =
    let g : o ≡ Equal = e ∙ ap (value_cmp v) (sym f) ∙ tied_itself value_cmp-total v in
    elim x [ inl h ↦ absurd cc | inr h ↦ absurd cc ]

pub returns-in-Equal : goal.returns-in-Equal
returns-in-Equal c =
    let v : Value = value_of c.args.a.now.1 in
    let w : Value = value_of c.args.b.now.1 in
    let e : value_cmp v w ≡ Equal = sym c.compare.ensures ∙ c.in-Equal.is in
    (λ _. value_cmp-tells v w e, λ _. refl)

pub returns-in-Less : goal.returns-in-Less
returns-in-Less c =
    let v : Value = value_of c.args.a.now.1 in
    let w : Value = value_of c.args.b.now.1 in
    (λ h. absurd cc, λ f. absurd (differ v w c.compare.result c.compare.ensures c.in-Less.is f))

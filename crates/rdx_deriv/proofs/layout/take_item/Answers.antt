use Rattle.std.proofs.Common.{◌≡◌, List, ℕ, sym, subst, ◌∙◌, ap}
use Rattle.rdx_lang.specs.Bindings.{Binding}
use Rattle.rdx_lang.specs.PatternView.{pattern_of, slot_of, Slot, just, repeated}
use Rattle.rdx_lang.specs.Shown.{binding_of}
use Rattle.rdx_lang.proofs.PatternEquations.{slot_one, slot_many}
use Rattle.std.specs.Prelude.{IfOk, IfNone}
use Rattle.rdx_deriv.specs.DerivationView.{goals_of}
use Rattle.rdx_deriv.specs.Inside.Layouts.{State, state_of, IsTheOne, TakesItem, BindTheirNames}
use Rattle.rdx_deriv.proofs.Repeats.{single_one, single_none}
use Rattle.rdx_deriv.proofs.layout.take_item.Goals as goal

pub returns-in_ok-share-in-Some-clause-some : goal.returns-in_ok-share-in-Some-clause-some
returns-in_ok-share-in-Some-clause-some c =
    let x = state_of c.args.rest in
    let y = state_of c.in-Some.taken.rest in
    let e : slot_of c.args.item.now ≡ just (pattern_of c.in-One.pat) = ap slot_of c.in-One.is ∙ slot_one c.in-One.pat in
    subst (λ (r : Slot). IsTheOne c.args.l.now r x c.args.choice.now (binding_of c.in_ok-share-in-Some.field-0) y c.args.choice.now) (sym e)
    (subst (λ (b : Binding). IsTheOne c.args.l.now (just (pattern_of c.in-One.pat)) x c.args.choice.now b y c.args.choice.now) (sym c.in_ok-share-in-Some.ensures)
    (single_one c.args.l.now (pattern_of c.in-One.pat) x y c.args.choice.now (binding_of c.in-Some.taken.binding.now) c.in-Some.ensures.some))

pub returns-in-None-clause-none : goal.returns-in-None-clause-none
returns-in-None-clause-none c b d y ks t =
    let e : slot_of c.args.item.now ≡ just (pattern_of c.in-One.pat) = ap slot_of c.in-One.is ∙ slot_one c.in-One.pat in
    single_none c.args.l.now (pattern_of c.in-One.pat) (state_of c.args.rest) c.args.choice.now c.in-None.ensures.none d y ks
    (subst (λ (r : Slot). TakesItem c.args.l.now r (state_of c.args.rest) c.args.choice.now d y ks) e t)

pub returns-in-Many-clause-none : goal.returns-in-Many-clause-none
returns-in-Many-clause-none c =
    let e : slot_of c.args.item.now ≡ repeated (pattern_of c.in-Many.pat) c.in-Many.length = ap slot_of c.in-Many.is ∙ slot_many c.in-Many.pat c.in-Many.length in
    subst (λ (r : Slot). IfOk c.take_many.result (λ o. IfNone o (BindTheirNames (goals_of c.args.rest.under.now)
    → (b : Binding) (y : State) (ks : List ℕ) → TakesItem c.args.l.now r (state_of c.args.rest) c.args.choice.now b y ks → ⊥)))
    (sym e) c.take_many.ensures.none

use Rattle.std.proofs.Common.{◌≡◌, ℕ, List, Option, Some, None, sym, ◌∙◌, ap, subst, true, false}
use Rattle.rdx_lang.specs.Members.{In}
use Rattle.rdx_nodes.specs.Inside.Forgetting.{ForgetsLength, forgets_no_length, forgets_length, keeps_length}
use Rattle.rdx_nodes.specs.Inside.Once.{is_once}
use Rattle.rdx_nodes.proofs.once.Once.other_length.Goals as goal

pub returns-then-has : goal.returns-then-has
returns-then-has c xs told =
    let e : is_once c.args.self.now.told c.in-Some.name ≡ true =
    ap (is_once c.args.self.now.told) (sym c.text.ensures.value) ∙ sym c.has.ensures ∙ c.if-has.true in
    subst (λ (n : Option (List ℕ)). ForgetsLength xs n None) (sym c.in-Some.is) (forgets_length ((told c.in-Some.name).1 e))

pub returns-else-has : goal.returns-else-has
returns-else-has c xs told =
    subst (λ (n : Option (List ℕ)). ForgetsLength xs n (Some c.in-Some.name)) (sym c.in-Some.is) (keeps_length absent)
  where
    absent : In c.in-Some.name xs → ⊥
    absent h =
        let e : is_once c.args.self.now.told c.in-Some.name ≡ true = (told c.in-Some.name).0 h in
        let f : is_once c.args.self.now.told c.in-Some.name ≡ false =
        ap (is_once c.args.self.now.told) (sym c.text.ensures.value) ∙ sym c.has.ensures ∙ c.if-has.false in cc

pub returns-in-None : goal.returns-in-None
returns-in-None c xs told = subst (λ (n : Option (List ℕ)). ForgetsLength xs n None) (sym c.in-None.is) forgets_no_length

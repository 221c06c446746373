use Rattle.std.proofs.Common.{◌≡◌, ◌+◌, ◌++◌, ◌∷◌, [], ℕ, List, Vec, Global, take, take-suc, take_all, add-one, sym, ◌∙◌, ap, if◌then◌else◌}
use Rattle.rdx_nodes.specs.Inside.Once.{is_once, others}
use Rattle.rdx_nodes.proofs.OnceTold.{others-push}
use Rattle.rdx_nodes.proofs.once.Once.others.Goals as goal
use Rattle.rdx_nodes.proofs.once.Once.others.Goals.{then-not-has+in_ok-share+in_ok-push, else-not-has}

pub loop-name-preserved : goal.loop-name-preserved
loop-name-preserved c =
    let m = c.args.self.now.told in
    let ns : List (List ℕ) = c.deref-name-items.result.now in
    let i : ℕ = c.loop-name.name-index in
    let x : List ℕ = c.name-item.result in
    let e : take (i + 1) ns ≡ take i ns ++ x ∷ [] = ap (λ k. take k ns) (add-one i) ∙ take-suc ns i x c.loop-name-test.true
    ∙ ap (λ y. take i ns ++ y ∷ []) (sym c.name-item.is) in
    let f = ap (others m) e ∙ others-push m (take i ns) x in
    let t : is_once m x ≡ c.has.result = ap (is_once m) (sym c.text.ensures.value) ∙ sym c.has.ensures in
    elim c.if-not-has.branch [
      | then-not-has+in_ok-share+in_ok-push w ↦
          ap (λ (v : Vec (List ℕ) Global). v.items) w.others-is ∙ w.in_ok-push.ensures.items
          ∙ (λ j. c.loop-name.invariant j ++ w.in_ok-share.ensures j ∷ [])
          ∙ sym (f ∙ ap (λ b. if b then others m (take i ns) else others m (take i ns) ++ x ∷ []) (t ∙ w.if-not-has.true))
      | else-not-has w ↦
          ap (λ (v : Vec (List ℕ) Global). v.items) w.others-is ∙ c.loop-name.invariant
          ∙ sym (f ∙ ap (λ b. if b then others m (take i ns) else others m (take i ns) ++ x ∷ []) (t ∙ w.if-not-has.false))
    ]

pub returns : goal.returns
returns c =
    let m = c.args.self.now.told in
    c.loop-name.invariant ∙ ap (others m) (take_all c.loop-name.name-index c.deref-name-items.result.now c.loop-name-test.false
    ∙ c.deref-name-items.ensures.value ∙ c.in_ok-names.ensures)

use Rattle.std.proofs.Common.{◌≡◌, Some, None, true≢false, refl, sym, ◌∙◌}
use Rattle.rdx_term.specs.Tree.{trees, trees_holes}
use Rattle.rdx_enum.proofs.Listed.{listed-one, listed-none, unlisted}
use Rattle.rdx_enum.proofs.over.is_listed.Goals as goal

pub returns-then-holes-eq1 : goal.returns-then-holes-eq1
returns-then-holes-eq1 c =
    let h : trees_holes (trees c.args.node.now.items) ≡ 1 = sym c.holes-holes.ensures.value ∙ c.if-holes-eq1.true in
    (λ i. listed-one c.args.node.now.mark (trees c.args.node.now.items) c.holes-holes.ensures.valid.marked.0 h, λ e. refl)

pub returns-in-None : goal.returns-in-None
returns-in-None c =
    let h : trees_holes (trees c.args.node.now.items) ≡ 1 → ⊥ = λ e. c.if-holes-eq1.false (c.holes-holes.ensures.value ∙ e) in
    (λ i. listed-none c.args.node.now.mark (trees c.args.node.now.items) h (sym c.mark.ensures.value ∙ c.in-None.is), λ e. refl)

pub returns-in-Some : goal.returns-in-Some
returns-in-Some c =
    let h : trees_holes (trees c.args.node.now.items) ≡ 1 → ⊥ = λ e. c.if-holes-eq1.false (c.holes-holes.ensures.value ∙ e) in (
      λ i. absurd (true≢false (sym i)),
      λ e.
          let n : c.args.node.now.mark ≡ None = unlisted c.args.node.now.mark (trees c.args.node.now.items) h e in
          let s : c.args.node.now.mark ≡ Some _ = sym c.mark.ensures.value ∙ c.in-Some.is in absurd (cc),
    )

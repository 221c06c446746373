use Rattle.std.proofs.Common.{◌≡◌, ◌+◌, true, map, drop, refl, subst}
use Rattle.rdx_term.specs.View.{tree_of}
use Rattle.rdx_lang.specs.Members.{In}
use Rattle.rdx_why.proofs.Alternatives.{left_next, left_none}
use Rattle.rdx_why.proofs.WholeGoals.{at_in}
use Rattle.rdx_why.proofs.explaining.is_listed.Goals as goal

pub returns-then-same : goal.returns-then-same
returns-then-same c =
    let xs = c.args.terms.now in
    let e = c.same.ensures.0 c.if-same.true in
    let i = at_in tree_of xs c.loop-u.u-index c.u-item.result c.loop-u-test.true c.u-item.is in
    (λ r. subst (λ z. In z (map tree_of xs)) e i, λ h. refl)

pub loop-u-preserved : goal.loop-u-preserved
loop-u-preserved c =
    let xs = c.args.terms.now in
    let t = tree_of c.args.t.now in
    λ h.
    let w =
    left_next tree_of (λ q. q ≡ t) xs c.loop-u.u-index c.u-item.result c.loop-u-test.true c.u-item.is
    (λ k. let r : c.same.result ≡ true = c.same.ensures.1 k in let n = c.if-same.false in absurd cc) (t, c.loop-u.invariant h, refl) in
    subst (λ z. In z (map tree_of (drop (c.loop-u.u-index + 1) xs))) w.2 w.1

pub returns : goal.returns
returns c =
    let xs = c.args.terms.now in (
      λ r. absurd cc,
      λ h. absurd (left_none tree_of (λ q. Unit {0}) xs c.loop-u.u-index c.loop-u-test.false (tree_of c.args.t.now, c.loop-u.invariant h, tt)),
    )

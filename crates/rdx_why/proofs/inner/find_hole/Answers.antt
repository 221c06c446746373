use Rattle.std.proofs.Common.{sym, ◌∙◌, ap, subst, true≢false}
use Rattle.std.proofs.lemmas.Result.{IfOk-weaker}
use Rattle.rdx_term.specs.View.{tree_of}
use Rattle.rdx_lang.specs.Checked.{language_in, pattern_in}
use Rattle.rdx_lang.specs.Decompositions.{Decomposition}
use Rattle.rdx_lang.specs.Listing.{IsSeen}
use Rattle.rdx_lang.specs.Members.{In}
use Rattle.rdx_lang.specs.PatternView.{pattern_of}
use Rattle.rdx_lang.specs.Rules.{Match}
use Rattle.rdx_lang.specs.Shown.{binding_of, decomposition_of, decompositions_of}
use Rattle.rdx_opened.proofs.Sought.{member_at}
use Rattle.rdx_why.proofs.Alternatives.{left_next, left_none}
use Rattle.rdx_why.proofs.HoleLoops.{IsHole, hole_listed, listed_so}
use Rattle.rdx_why.proofs.KnownContexts.{part_there, part_known}
use Rattle.rdx_why.proofs.inner.find_hole.Goals as goal

pub part_along-requires : goal.part_along-requires
part_along-requires g c =
    part_there (language_in c.args.language.now) (pattern_of c.args.left.now) (tree_of c.args.t.now) (tree_of c.in-Some.context.now)
    (binding_of c.args.sides.now.outer) c.in-Some.ensures (pattern_of c.args.right.now) (binding_of c.args.sides.now.inner) c.requires

pub returns-in-Some-clause-outer : goal.returns-in-Some-clause-outer
returns-in-Some-clause-outer g c =
    IfOk-weaker c.hole_at.result _ _
    (λ r e. (part_known (language_in c.args.language.now) (pattern_of c.args.left.now) (tree_of c.args.t.now) (tree_of c.in-Some.context.now)
    (binding_of c.args.sides.now.outer) c.in-Some.ensures (pattern_of c.args.right.now) (binding_of c.args.sides.now.inner) c.requires
    (tree_of r.context) (tree_of c.in_ok-part.part.now) (tree_of r.part) e.0 e.1 c.in_ok-part.ensures).0)
    c.hole_at.ensures

pub returns-in-Some-clause-inner : goal.returns-in-Some-clause-inner
returns-in-Some-clause-inner g c =
    IfOk-weaker c.hole_at.result _ _
    (λ r e. (part_known (language_in c.args.language.now) (pattern_of c.args.left.now) (tree_of c.args.t.now) (tree_of c.in-Some.context.now)
    (binding_of c.args.sides.now.outer) c.in-Some.ensures (pattern_of c.args.right.now) (binding_of c.args.sides.now.inner) c.requires
    (tree_of r.context) (tree_of c.in_ok-part.part.now) (tree_of r.part) e.0 e.1 c.in_ok-part.ensures).1)
    c.hole_at.ensures

pub loop-outer-init : goal.loop-outer-init
loop-outer-init g c =
    hole_listed (language_in c.args.language.now) (pattern_of c.args.right.now) (binding_of c.args.sides.now.outer)
    (binding_of c.args.sides.now.inner) (pattern_of c.args.left.now) (pattern_in c.in_ok-question.question) c.in_ok-question.ensures
    (tree_of c.args.t.now) (decompositions_of c.in_ok-found.found.items) (decompositions_of c.deref-outer-items.result.now)
    c.in_ok-found.ensures (ap decompositions_of c.deref-outer-items.ensures.value) c.requires

pub returns-then-branch-clause-outer : goal.returns-then-branch-clause-outer
returns-then-branch-clause-outer g c =
    let x = c.outer-item.result in
    let h = c.in_ok-is_hole.ensures.0 c.if-branch.true in
    let i : In (decomposition_of x) (decompositions_of c.deref-outer-items.result.now) =
    member_at decomposition_of c.deref-outer-items.result.now c.loop-outer.outer-index x c.loop-outer-test.true c.outer-item.is in
    IfOk-weaker c.hole_at-then-branch.result _ _
    (λ r e. listed_so (language_in c.args.language.now) (pattern_of c.args.left.now) (pattern_in c.in_ok-question.question)
    c.in_ok-question.ensures (tree_of c.args.t.now) (decompositions_of c.in_ok-found.found.items)
    (decompositions_of c.deref-outer-items.result.now) c.in_ok-found.ensures (ap decompositions_of c.deref-outer-items.ensures.value)
    (decomposition_of x) i (tree_of r.context) (tree_of r.part) (binding_of c.args.sides.now.outer) e.0 e.1 h.0)
    c.hole_at-then-branch.ensures

pub returns-then-branch-clause-inner : goal.returns-then-branch-clause-inner
returns-then-branch-clause-inner g c =
    let h = c.in_ok-is_hole.ensures.0 c.if-branch.true in
    IfOk-weaker c.hole_at-then-branch.result _ _
    (λ r e. subst (λ u. IsSeen (Match (language_in c.args.language.now) (pattern_of c.args.right.now) u) (binding_of c.args.sides.now.inner))
    (sym e.1) h.1)
    c.hole_at-then-branch.ensures

pub loop-outer-preserved : goal.loop-outer-preserved
loop-outer-preserved g c =
    let R : Decomposition → Type 0 = IsHole (language_in c.args.language.now) (pattern_of c.args.right.now)
    (binding_of c.args.sides.now.outer) (binding_of c.args.sides.now.inner) in
    left_next decomposition_of R c.deref-outer-items.result.now c.loop-outer.outer-index c.outer-item.result c.loop-outer-test.true
    c.outer-item.is (λ h. true≢false (sym (c.in_ok-is_hole.ensures.1 h) ∙ c.if-branch.false)) c.loop-outer.invariant

pub unreachable-requires : goal.unreachable-requires
unreachable-requires g c =
    let R : Decomposition → Type 0 = IsHole (language_in c.args.language.now) (pattern_of c.args.right.now)
    (binding_of c.args.sides.now.outer) (binding_of c.args.sides.now.inner) in
    left_none decomposition_of R c.deref-outer-items.result.now c.loop-outer.outer-index c.loop-outer-test.false c.loop-outer.invariant

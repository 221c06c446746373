use Rattle.std.proofs.Common.{◌≡◌, sym, ◌∙◌, ap, subst}
use Rattle.std.proofs.lemmas.Result.{IfOk-weaker}
use Rattle.std.specs.Option.{IfSome}
use Rattle.rdx_term.specs.Fill.{fill_of}
use Rattle.rdx_term.specs.View.{tree_of}
use Rattle.rdx_lang.specs.Checked.{language_in, pattern_in}
use Rattle.rdx_lang.specs.Decompositions.{Decomposition}
use Rattle.rdx_lang.specs.Listing.{IsSeen}
use Rattle.rdx_lang.specs.Members.{In}
use Rattle.rdx_lang.specs.PatternView.{pattern_of}
use Rattle.rdx_lang.specs.Rules.{Split}
use Rattle.rdx_lang.specs.Shown.{binding_of, decomposition_of, decompositions_of}
use Rattle.rdx_opened.proofs.Sought.{member_at}
use Rattle.rdx_why.proofs.Alternatives.{left_next, left_none}
use Rattle.rdx_why.proofs.HoleLoops.{AreHoles, holes_listed, listed_so}
use Rattle.rdx_why.proofs.KnownContexts.{middle_there, second_there, both_known}
use Rattle.rdx_why.proofs.inner.find_holes.Goals as goal

pub part_along-requires : goal.part_along-requires
part_along-requires g c =
    middle_there (language_in c.args.language.now) (pattern_of c.args.left.now) (tree_of c.args.t.now) (tree_of c.in-Some.first.now)
    (binding_of c.args.sides.now.outer) c.in-Some.ensures (pattern_of c.args.right.now) (binding_of c.args.sides.now.inner)
    (tree_of c.args.context.now) (tree_of c.args.part.now) c.requires

pub part_along-requires-in-Some : goal.part_along-requires-in-Some
part_along-requires-in-Some g c =
    second_there (language_in c.args.language.now) (pattern_of c.args.left.now) (tree_of c.args.t.now) (tree_of c.in-Some.first.now)
    (binding_of c.args.sides.now.outer) c.in-Some.ensures (pattern_of c.args.right.now) (binding_of c.args.sides.now.inner)
    (tree_of c.args.context.now) (tree_of c.args.part.now) c.requires

pub returns-in-Some-clause-outer : goal.returns-in-Some-clause-outer
returns-in-Some-clause-outer g c =
    IfOk-weaker c.holes_at.result _ _
    (λ r e. (both_known (language_in c.args.language.now) (pattern_of c.args.left.now) (tree_of c.args.t.now) (tree_of c.in-Some.first.now)
    (binding_of c.args.sides.now.outer) c.in-Some.ensures (pattern_of c.args.right.now) (binding_of c.args.sides.now.inner)
    (tree_of c.args.context.now) (tree_of c.args.part.now) c.requires
    (tree_of r.first) (tree_of c.in_ok-middle.middle.now) (tree_of r.middle) (tree_of c.in_ok-part_along.field-0.now) (tree_of r.second)
    e.0 e.2 (e.1 ∙ c.in_ok-second.ensures) c.in_ok-middle.ensures c.in_ok-part_along.ensures).0)
    c.holes_at.ensures

pub returns-in-Some-clause-inner : goal.returns-in-Some-clause-inner
returns-in-Some-clause-inner g c =
    IfOk-weaker c.holes_at.result _ _
    (λ r e. (both_known (language_in c.args.language.now) (pattern_of c.args.left.now) (tree_of c.args.t.now) (tree_of c.in-Some.first.now)
    (binding_of c.args.sides.now.outer) c.in-Some.ensures (pattern_of c.args.right.now) (binding_of c.args.sides.now.inner)
    (tree_of c.args.context.now) (tree_of c.args.part.now) c.requires
    (tree_of r.first) (tree_of c.in_ok-middle.middle.now) (tree_of r.middle) (tree_of c.in_ok-part_along.field-0.now) (tree_of r.second)
    e.0 e.2 (e.1 ∙ c.in_ok-second.ensures) c.in_ok-middle.ensures c.in_ok-part_along.ensures).1)
    c.holes_at.ensures

pub returns-in-Some-clause-filled : goal.returns-in-Some-clause-filled
returns-in-Some-clause-filled g c =
    IfOk-weaker c.holes_at.result _ _
    (λ r e. (both_known (language_in c.args.language.now) (pattern_of c.args.left.now) (tree_of c.args.t.now) (tree_of c.in-Some.first.now)
    (binding_of c.args.sides.now.outer) c.in-Some.ensures (pattern_of c.args.right.now) (binding_of c.args.sides.now.inner)
    (tree_of c.args.context.now) (tree_of c.args.part.now) c.requires
    (tree_of r.first) (tree_of c.in_ok-middle.middle.now) (tree_of r.middle) (tree_of c.in_ok-part_along.field-0.now) (tree_of r.second)
    e.0 e.2 (e.1 ∙ c.in_ok-second.ensures) c.in_ok-middle.ensures c.in_ok-part_along.ensures).2)
    c.holes_at.ensures

pub loop-outer-init : goal.loop-outer-init
loop-outer-init g c =
    holes_listed (language_in c.args.language.now) (pattern_of c.args.right.now) (binding_of c.args.sides.now.outer)
    (binding_of c.args.sides.now.inner) (pattern_of c.args.left.now) (pattern_in c.in_ok-question.question) c.in_ok-question.ensures
    (tree_of c.args.t.now) (decompositions_of c.in_ok-found.found.items) (decompositions_of c.deref-outer-items.result.now)
    c.in_ok-found.ensures (ap decompositions_of c.deref-outer-items.ensures.value) (tree_of c.args.context.now) (tree_of c.args.part.now)
    c.requires

pub returns-in-Some-2-clause-outer : goal.returns-in-Some-2-clause-outer
returns-in-Some-2-clause-outer g c =
    let x = c.outer-item.result in
    let L = language_in c.args.language.now in
    let h = subst (λ r. IfSome r (λ D. (binding_of x.binding ≡ binding_of c.args.sides.now.outer)
    × (tree_of c.args.context.now ≡ fill_of (tree_of x.context) (tree_of D))
    × IsSeen (Split L (pattern_of c.args.right.now) (tree_of x.part) (tree_of D) (tree_of c.args.part.now)) (binding_of c.args.sides.now.inner)))
    c.in-Some-2.is c.in_ok-second-2.ensures.some in
    let i : In (decomposition_of x) (decompositions_of c.deref-outer-items.result.now) =
    member_at decomposition_of c.deref-outer-items.result.now c.loop-outer.outer-index x c.loop-outer-test.true c.outer-item.is in
    IfOk-weaker c.holes_at-in-Some-2.result _ _
    (λ r e. listed_so L (pattern_of c.args.left.now) (pattern_in c.in_ok-question.question)
    c.in_ok-question.ensures (tree_of c.args.t.now) (decompositions_of c.in_ok-found.found.items)
    (decompositions_of c.deref-outer-items.result.now) c.in_ok-found.ensures (ap decompositions_of c.deref-outer-items.ensures.value)
    (decomposition_of x) i (tree_of r.first) (tree_of r.middle) (binding_of c.args.sides.now.outer) e.0 e.2 h.0)
    c.holes_at-in-Some-2.ensures

pub returns-in-Some-2-clause-inner : goal.returns-in-Some-2-clause-inner
returns-in-Some-2-clause-inner g c =
    let x = c.outer-item.result in
    let L = language_in c.args.language.now in
    let h = subst (λ r. IfSome r (λ D. (binding_of x.binding ≡ binding_of c.args.sides.now.outer)
    × (tree_of c.args.context.now ≡ fill_of (tree_of x.context) (tree_of D))
    × IsSeen (Split L (pattern_of c.args.right.now) (tree_of x.part) (tree_of D) (tree_of c.args.part.now)) (binding_of c.args.sides.now.inner)))
    c.in-Some-2.is c.in_ok-second-2.ensures.some in
    IfOk-weaker c.holes_at-in-Some-2.result _ _
    (λ r e. subst (λ D. IsSeen (Split L (pattern_of c.args.right.now) (tree_of r.middle) D (tree_of c.args.part.now)) (binding_of c.args.sides.now.inner))
    (sym e.1)
    (subst (λ z. IsSeen (Split L (pattern_of c.args.right.now) z (tree_of c.in-Some-2.second) (tree_of c.args.part.now)) (binding_of c.args.sides.now.inner))
    (sym e.2) h.2))
    c.holes_at-in-Some-2.ensures

pub returns-in-Some-2-clause-filled : goal.returns-in-Some-2-clause-filled
returns-in-Some-2-clause-filled g c =
    let x = c.outer-item.result in
    let L = language_in c.args.language.now in
    let h = subst (λ r. IfSome r (λ D. (binding_of x.binding ≡ binding_of c.args.sides.now.outer)
    × (tree_of c.args.context.now ≡ fill_of (tree_of x.context) (tree_of D))
    × IsSeen (Split L (pattern_of c.args.right.now) (tree_of x.part) (tree_of D) (tree_of c.args.part.now)) (binding_of c.args.sides.now.inner)))
    c.in-Some-2.is c.in_ok-second-2.ensures.some in
    IfOk-weaker c.holes_at-in-Some-2.result _ _
    (λ r e. h.1 ∙ (λ i. fill_of (sym e.0 i) (sym e.1 i)))
    c.holes_at-in-Some-2.ensures

pub loop-outer-preserved : goal.loop-outer-preserved
loop-outer-preserved g c =
    let R : Decomposition → Type 0 = AreHoles (language_in c.args.language.now) (pattern_of c.args.right.now)
    (binding_of c.args.sides.now.outer) (binding_of c.args.sides.now.inner) (tree_of c.args.context.now) (tree_of c.args.part.now) in
    let none = rw c.in_default-2.is at c.in_ok-second-2.ensures.none in
    left_next decomposition_of R c.deref-outer-items.result.now c.loop-outer.outer-index c.outer-item.result c.loop-outer-test.true
    c.outer-item.is (λ h. none h.1 h.0 h.2 h.3) c.loop-outer.invariant

pub unreachable-requires : goal.unreachable-requires
unreachable-requires g c =
    let R : Decomposition → Type 0 = AreHoles (language_in c.args.language.now) (pattern_of c.args.right.now)
    (binding_of c.args.sides.now.outer) (binding_of c.args.sides.now.inner) (tree_of c.args.context.now) (tree_of c.args.part.now) in
    left_none decomposition_of R c.deref-outer-items.result.now c.loop-outer.outer-index c.loop-outer-test.false c.loop-outer.invariant

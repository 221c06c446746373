use Rattle.std.proofs.Common.{[], arith}
use Rattle.rdx_lang.specs.Members.{In}
use Rattle.rdx_gen.proofs.MarkLaws.{marks-none, marks-more, marks-whole}
use Rattle.rdx_gen.proofs.marking.mark_all.Goals as goal

pub loop-place-init : goal.loop-place-init
loop-place-init c = marks-none (λ j. In j []) c.args.marks.now.items c.args.listed.now.items (λ j i. elim i [ ])

pub loop-place-preserved : goal.loop-place-preserved
loop-place-preserved c = marks-more c.args.places.now c.loop-place.place-index c.args.marks.now.items c.loop-place.marks.items c.mark.new.marks.items
    c.args.listed.now.items c.loop-place.listed.items c.mark.new.listed.items c.loop-place-test.true c.loop-place.invariant c.in_ok-mark.ensures

pub returns : goal.returns
returns c = marks-whole c.args.places.now c.loop-place.place-index c.args.marks.now.items c.loop-place.marks.items c.args.listed.now.items c.loop-place.listed.items
    (omega arith) c.loop-place.invariant

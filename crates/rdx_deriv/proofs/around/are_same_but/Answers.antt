use Rattle.std.proofs.Common.{arith}
use Rattle.rdx_deriv.proofs.Arounds.{terms_lengths, at_place, at_equal}
use Rattle.rdx_deriv.proofs.around.are_same_but.Goals as goal
use Rattle.rdx_deriv.proofs.around.are_same_but.Goals.{else-i-place-via-then-i-place+else-not-is_same_term, else-i-place-via-else-i-place}

pub returns-then-terms-others : goal.returns-then-terms-others
returns-then-terms-others c = terms_lengths 0 c.args.place c.args.terms.now c.args.others.now c.if-terms-others.true

pub loop-i-preserved : goal.loop-i-preserved
loop-i-preserved c = elim c.else-i-place.branch [
  | else-i-place-via-then-i-place+else-not-is_same_term w ↦ at_equal c.args.terms.now c.args.others.now c.loop-i.i c.args.place w.index-terms-i.result w.index-others-i.result (omega arith) (omega arith) w.index-terms-i.is w.index-others-i.is (cc) c.loop-i.invariant
  | else-i-place-via-else-i-place w ↦ at_place c.args.terms.now c.args.others.now c.loop-i.i c.args.place (omega arith) (omega arith) (omega arith) c.loop-i.invariant
]

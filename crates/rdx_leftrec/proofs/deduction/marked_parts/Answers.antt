use Rattle.std.proofs.Common.{get_or, arith}
use Rattle.rdx_leftrec.proofs.Deducing.{next-marked}
use Rattle.rdx_leftrec.proofs.Lists.{read-in}
use Rattle.rdx_leftrec.proofs.deduction.marked_parts.Goals as goal

pub bounds-marks-parts : goal.bounds-marks-parts
bounds-marks-parts c = c.requires.inside (get_or c.args.parts.now c.loop-count.count 0) (read-in c.args.parts.now c.loop-count.count 0 c.loop-count-test.true)

pub loop-count-preserved : goal.loop-count-preserved
loop-count-preserved c = record {
  most = (let l = c.loop-count-test.true in omega arith);
  marked = next-marked c.args.marks.now c.args.parts.now c.loop-count.count c.loop-count.invariant.marked c.if-marks-parts.true;
}

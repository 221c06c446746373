use Rattle.rdx_opened.proofs.Made.{longest_more, longest_end}
use Rattle.rdx_opened.proofs.opening.longest.Goals as goal

pub loop-name-preserved : goal.loop-name-preserved
loop-name-preserved c =
    longest_more c.args.names.now c.loop-name.name-index c.name-item.result c.loop-name.most _ c.loop-name-test.true c.name-item.is
    c.in_ok-most-2.ensures.first c.in_ok-most-2.ensures.second c.loop-name.invariant

pub returns : goal.returns
returns c = longest_end c.args.names.now c.loop-name.name-index c.loop-name.most c.loop-name-test.false c.loop-name.invariant

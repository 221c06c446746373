use Rattle.rdx_direct.specs.Inside.Paths.{LeadAlike}
use Rattle.rdx_direct.proofs.paths.move_later.Given as goal

abbrev pub invariant-loop-branches : goal.invariant-loop-branches
invariant-loop-branches l = LeadAlike l.moved.items l.branches.items l.fn.moved.items l.fn.branches.items

abbrev pub decreases-loop-branches : goal.decreases-loop-branches
decreases-loop-branches l = goal.left-loop-branches l

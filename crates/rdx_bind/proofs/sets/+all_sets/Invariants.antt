use Rattle.std.proofs.Common.{length}
use Rattle.rdx_bind.proofs.sets.+all_sets.Given as goal

abbrev pub decreases-all_sets : goal.decreases-all_sets
decreases-all_sets l = length l.list.now

use Rattle.std.proofs.Common.{length, ◌≡◌, ◌≤◌, true, drop}
use Rattle.rdx_table.specs.Inside.Cuts.{are_ones}
use Rattle.rdx_table.proofs.cut.behind_last.Given as goal

abbrev pub invariant-loop-start : goal.invariant-loop-start
invariant-loop-start l = (l.start ≤ length l.entries) × (are_ones (drop l.start l.entries) ≡ true)

abbrev pub decreases-loop-start : goal.decreases-loop-start
decreases-loop-start l = l.start

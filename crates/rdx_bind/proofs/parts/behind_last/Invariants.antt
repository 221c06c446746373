use Rattle.std.proofs.Common.{length, ◌≡◌, ◌≤◌, true, map, drop}
use Rattle.rdx_lang.specs.Singles.{are_single}
use Rattle.rdx_lang.specs.PatternView.{slot_of}
use Rattle.rdx_bind.proofs.parts.behind_last.Given as goal

abbrev pub invariant-loop-start : goal.invariant-loop-start
invariant-loop-start l = (l.start ≤ length l.items) × (are_single (map slot_of (drop l.start l.items)) ≡ true)

abbrev pub decreases-loop-start : goal.decreases-loop-start
decreases-loop-start l = l.start

use Rattle.std.proofs.Common.{length, ◌-◌, ◌≡◌, ◌≤◌, true, map, take}
use Rattle.rdx_lang.specs.Singles.{are_single}
use Rattle.rdx_lang.specs.PatternView.{slot_of}
use Rattle.rdx_bind.proofs.parts.before_first.Given as goal

abbrev pub invariant-loop-count : goal.invariant-loop-count
invariant-loop-count l = (l.count ≤ length l.items) × (are_single (map slot_of (take l.count l.items)) ≡ true)

abbrev pub decreases-loop-count : goal.decreases-loop-count
decreases-loop-count l = length l.items - l.count

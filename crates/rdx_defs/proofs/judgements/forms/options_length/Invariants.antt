use Rattle.std.proofs.Common.{◌≡◌, ◌+◌, ◌-◌, ◌≤◌, drop, length}
use Rattle.rdx_defs.specs.Inside.FormOutlines.{options_length}
use Rattle.rdx_defs.proofs.judgements.forms.options_length.Given as goal

abbrev pub invariant-loop-end : goal.invariant-loop-end
invariant-loop-end l = (l.end ≤ length l.parts) × (l.end + options_length (drop l.end l.parts) ≡ options_length l.parts)

abbrev pub decreases-loop-end : goal.decreases-loop-end
decreases-loop-end l = length l.parts - l.end

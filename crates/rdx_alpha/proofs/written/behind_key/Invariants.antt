use Rattle.std.proofs.Common.{◌≡◌, length}
use Rattle.rdx_alpha.specs.Written.{behind_key}
use Rattle.rdx_alpha.proofs.written.behind_key.Given as goal

abbrev pub invariant-loop-item : goal.invariant-loop-item
invariant-loop-item l = behind_key l.left ≡ behind_key l.items

abbrev pub decreases-loop-item : goal.decreases-loop-item
decreases-loop-item l = length l.left

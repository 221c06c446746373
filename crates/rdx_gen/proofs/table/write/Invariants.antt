use Rattle.std.proofs.Common.{◌≡◌, drop}
use Rattle.rdx_gen.specs.Inside.Waiting.{written}
use Rattle.rdx_gen.proofs.table.write.Given as goal

abbrev pub invariant-loop-place : goal.invariant-loop-place
invariant-loop-place l = written l.heights.items (drop l.place-index l.found) ≡ written l.initial.heights.items l.found

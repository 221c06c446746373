use Rattle.std.proofs.Common.{◌≡◌, ◌++◌, drop}
use Rattle.rdx_leftrec.specs.Inside.Numbers.{scaled}
use Rattle.rdx_leftrec.proofs.ranks.scaled.Given as goal

abbrev pub invariant-loop-number : goal.invariant-loop-number
invariant-loop-number l = l.numbers.items ++ scaled l.scale (drop l.number-index l.falling) ≡ scaled l.scale l.falling

use Rattle.std.proofs.Common.{take}
use Rattle.rdx_nodes.specs.Inside.Once.{bytes_of, Tells}
use Rattle.rdx_nodes.proofs.once.Once.among.Given as goal

abbrev pub invariant-loop-place : goal.invariant-loop-place
invariant-loop-place l = Tells l.told (bytes_of (take l.place-index l.places))

use Rattle.std.proofs.Common.{take}
use Rattle.rdx_gen.specs.Inside.Places.{lists_of}
use Rattle.rdx_gen.specs.Inside.Waiting.{Marks, IsWoken}
use Rattle.rdx_gen.proofs.table.wake.Given as goal

abbrev pub invariant-loop-place : goal.invariant-loop-place
invariant-loop-place l = Marks (IsWoken (lists_of l.users) (take l.place-index l.found)) l.initial.waits.items l.waits.items l.initial.waiting.items l.waiting.items

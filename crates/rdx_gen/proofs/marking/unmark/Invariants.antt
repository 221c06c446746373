use Rattle.std.proofs.Common.{◌≡◌, drop, length}
use Rattle.rdx_gen.specs.Inside.Waiting.{AreListed}
use Rattle.rdx_gen.proofs.marking.unmark.Given as goal

abbrev pub invariant-loop-place : goal.invariant-loop-place
invariant-loop-place l = record {
  size : length l.marks.items ≡ length l.initial.marks.items;
  rest : AreListed l.marks.items (drop l.place-index l.places);
}

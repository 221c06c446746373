use Rattle.std.proofs.Common.{◌≡◌, drop, length}
use Rattle.rdx_leftrec.specs.Inside.Lists.{with_all}
use Rattle.rdx_leftrec.specs.declared.walk.State.TheVariants.{Done}
use Rattle.rdx_leftrec.proofs.walk.give_all.Given as goal

abbrev pub invariant-loop-place : goal.invariant-loop-place
invariant-loop-place l = record {
  size : length l.states.items ≡ length l.initial.states.items;
  given : with_all l.states.items (drop l.place-index l.places) (Done l.number) ≡ with_all l.initial.states.items l.places (Done l.number);
}

use Rattle.std.proofs.Common.{◌≡◌, ◌++◌, drop}
use Rattle.rdx_gen.specs.Generation as model
use Rattle.rdx_gen.proofs.choices.places_to_choose.Given as goal

abbrev pub invariant-loop-i : goal.invariant-loop-i
invariant-loop-i l = l.places.items ++ model.choices_from l.size l.lowest l.i (drop l.i l.heights) ≡ model.choices l.size l.heights

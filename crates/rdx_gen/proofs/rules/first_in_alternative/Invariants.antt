use Rattle.std.proofs.Common.{◌≡◌, drop, map}
use Rattle.rdx_gen.specs.NameRules as model
use Rattle.rdx_gen.specs.PlaceView.{place_of}
use Rattle.rdx_gen.proofs.rules.first_in_alternative.Given as goal

abbrev pub invariant-loop-i : goal.invariant-loop-i
invariant-loop-i l = model.first_in_alternative (map place_of l.all) (map place_of (drop l.i l.all)) ≡ model.first_in_alternative (map place_of l.all) (map place_of l.all)

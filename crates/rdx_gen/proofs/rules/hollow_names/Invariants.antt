use Rattle.std.proofs.Common.{◌≡◌, ◌++◌, drop, map}
use Rattle.rdx_gen.specs.NameRules as model
use Rattle.rdx_gen.specs.PlaceView.{place_of}
use Rattle.rdx_gen.specs.KnownView.{known_of}
use Rattle.rdx_gen.proofs.rules.hollow_names.Given as goal

abbrev pub invariant-loop-u : goal.invariant-loop-u
invariant-loop-u l = map (λ r. r.now) l.names.items ++ model.hollow_names (known_of l.known) (map place_of (drop l.u-index l.all)) ≡ model.hollow_names (known_of l.known) (map place_of l.all)

use Rattle.std.proofs.Common.{drop}
use Rattle.rdx_lang.specs.Collecting.{Arises}
use Rattle.rdx_lang.specs.Shown.{bindings_of}
use Rattle.rdx_lang.proofs.Collecting.{Collects}
use Rattle.rdx_bind.specs.Ends.{IsSpotWith}
use Rattle.rdx_bind.specs.Spots.{spot_of, spots_of}
use Rattle.rdx_bind.proofs.turn_spots.add_spots.Given as goal

abbrev pub invariant-loop-first : goal.invariant-loop-first
invariant-loop-first l =
    Collects (λ c. Arises (IsSpotWith (spot_of l.spot) c) (bindings_of l.others)) (bindings_of l.firsts) (bindings_of (drop l.first-index l.firsts)) (spots_of l.initial.found.items) (spots_of l.found.items)

use Rattle.std.proofs.Common.{drop}
use Rattle.rdx_lang.proofs.Collecting.{Collects}
use Rattle.rdx_lang.specs.Collecting.{Arises}
use Rattle.rdx_lang.specs.Shown.{bindings_of}
use Rattle.rdx_bind.specs.Rows.{JoinedSpot}
use Rattle.rdx_bind.specs.Spots.{spots_of}
use Rattle.rdx_bind.proofs.columns.add_spots.Given as goal

abbrev pub invariant-loop-spot : goal.invariant-loop-spot
invariant-loop-spot l =
    Collects (λ s. Arises (JoinedSpot s) (bindings_of l.others)) (spots_of l.spots) (spots_of (drop l.spot-index l.spots)) (spots_of l.initial.found.items) (spots_of l.found.items)

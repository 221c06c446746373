use Rattle.std.proofs.Common.{drop, [], List}
use Rattle.rdx_lang.specs.Collecting.{Arises}
use Rattle.rdx_lang.specs.Shown.{bindings_of}
use Rattle.rdx_lang.proofs.Collecting.{Collects}
use Rattle.rdx_bind.specs.Rows.{JoinedSpot}
use Rattle.rdx_bind.specs.Spots.{Spot, spots_of}
use Rattle.rdx_bind.proofs.rows.spots_with.Given as goal

abbrev pub invariant-loop-spot : goal.invariant-loop-spot
invariant-loop-spot l =
    let nothing : List Spot = [] in
    Collects (λ s. Arises (JoinedSpot s) (bindings_of l.others)) (spots_of l.fn.spots.items) (spots_of (drop l.spot-index l.fn.spots.items)) nothing (spots_of l.found.items)

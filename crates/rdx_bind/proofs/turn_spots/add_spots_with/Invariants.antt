use Rattle.std.proofs.Common.{drop}
use Rattle.rdx_lang.specs.Shown.{binding_of, bindings_of}
use Rattle.rdx_lang.proofs.Collecting.{Collects}
use Rattle.rdx_bind.specs.Ends.{IsSpotWith}
use Rattle.rdx_bind.specs.Spots.{spot_of, spots_of}
use Rattle.rdx_bind.proofs.turn_spots.add_spots_with.Given as goal

abbrev pub invariant-loop-other : goal.invariant-loop-other
invariant-loop-other l =
    Collects (IsSpotWith (spot_of l.spot) (binding_of l.first)) (bindings_of l.others) (bindings_of (drop l.other-index l.others)) (spots_of l.initial.found.items) (spots_of l.found.items)

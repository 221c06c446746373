use Rattle.std.proofs.Common.{drop}
use Rattle.rdx_lang.specs.Shown.{bindings_of}
use Rattle.rdx_lang.proofs.Collecting.{Collects}
use Rattle.rdx_bind.specs.Rows.{JoinedSpot}
use Rattle.rdx_bind.specs.Spots.{spot_of, spots_of}
use Rattle.rdx_bind.proofs.rows.add_all_joined.Given as goal

abbrev pub invariant-loop-other : goal.invariant-loop-other
invariant-loop-other l =
    Collects (JoinedSpot (spot_of l.spot)) (bindings_of l.others) (bindings_of (drop l.other-index l.others)) (spots_of l.initial.found.items) (spots_of l.found.items)

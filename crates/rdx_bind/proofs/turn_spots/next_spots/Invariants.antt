use Rattle.std.proofs.Common.{List, [], drop}
use Rattle.rdx_lang.proofs.Collecting.{Collects}
use Rattle.rdx_bind.specs.Choices.{length_name}
use Rattle.rdx_bind.specs.Ends.{SplitsNext}
use Rattle.rdx_bind.specs.Rows.{split_rows_of}
use Rattle.rdx_bind.specs.Spots.{Spot, spots_of}
use Rattle.rdx_bind.proofs.turn_spots.next_spots.Given as goal

abbrev pub invariant-loop-spot : goal.invariant-loop-spot
invariant-loop-spot l =
    let nothing : List Spot = [] in
    Collects (SplitsNext l.repetition.names.now (length_name l.repetition.length) (split_rows_of l.cells)) (spots_of l.spots) (spots_of (drop l.spot-index l.spots)) nothing (spots_of l.found.items)

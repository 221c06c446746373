use Rattle.std.proofs.Common.{List, [], drop}
use Rattle.rdx_lang.specs.Shown.{bindings_of}
use Rattle.rdx_lang.proofs.Collecting.{Collects}
use Rattle.rdx_bind.specs.Choices.{length_name}
use Rattle.rdx_bind.specs.Ends.{SplitsCell}
use Rattle.rdx_bind.specs.Rows.{split_rows_of}
use Rattle.rdx_bind.specs.Spots.{Spot, spots_of}
use Rattle.rdx_bind.proofs.turn_spots.cell_spots.Given as goal

abbrev pub invariant-loop-spot : goal.invariant-loop-spot
invariant-loop-spot l =
    let nothing : List Spot = [] in
    Collects (SplitsCell l.repetition.names.now (length_name l.repetition.length) (split_rows_of l.before) (split_rows_of l.between) (bindings_of l.others))
    (spots_of l.spots) (spots_of (drop l.spot-index l.spots)) nothing (spots_of l.found.items)

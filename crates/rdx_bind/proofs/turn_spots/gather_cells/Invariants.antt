use Rattle.std.proofs.Common.{drop}
use Rattle.rdx_lang.proofs.Collecting.{Collects}
use Rattle.rdx_bind.specs.Choices.{length_name}
use Rattle.rdx_bind.specs.Ends.{SplitsCellTo}
use Rattle.rdx_bind.specs.Rows.{split_rows_of}
use Rattle.rdx_bind.specs.Splitting.{gathered_spots}
use Rattle.rdx_bind.proofs.turn_spots.gather_cells.Given as goal

abbrev pub invariant-loop-from : goal.invariant-loop-from
invariant-loop-from l =
    Collects (SplitsCellTo l.repetition.names.now (length_name l.repetition.length) (split_rows_of l.cells) (split_rows_of l.nexts)) l.split_ends (drop l.from-index l.split_ends) (gathered_spots l.initial.found) (gathered_spots l.found)

use Rattle.std.proofs.Common.{drop}
use Rattle.rdx_lang.proofs.Collecting.{Collects}
use Rattle.rdx_bind.specs.Choices.{length_name}
use Rattle.rdx_bind.specs.Ends.{SplitsNextTo}
use Rattle.rdx_bind.specs.Rows.{split_rows_of}
use Rattle.rdx_bind.specs.Splitting.{gathered_spots}
use Rattle.rdx_bind.proofs.turn_spots.gather_nexts.Given as goal

abbrev pub invariant-loop-place : goal.invariant-loop-place
invariant-loop-place l =
    Collects (SplitsNextTo l.repetition.names.now (length_name l.repetition.length) (split_rows_of l.cells) (split_rows_of l.nexts)) l.split_nexts (drop l.place-index l.split_nexts) (gathered_spots l.initial.found) (gathered_spots l.found)

use Rattle.std.proofs.Common.{◌⊎◌, List, drop}
use Rattle.rdx_lang.specs.Bindings.{Binding}
use Rattle.rdx_lang.specs.Members.{In}
use Rattle.rdx_bind.specs.Choices.{ArePlain}
use Rattle.rdx_bind.specs.Rows.{all_matches, split_rows_of}
use Rattle.rdx_bind.proofs.repetition.rows_are_plain.Given as goal

abbrev pub invariant-loop-cell : goal.invariant-loop-cell
invariant-loop-cell l =
    (row : List Binding) → In row (all_matches (split_rows_of l.cells)) → In row (all_matches (split_rows_of (drop l.cell-index l.cells))) ⊎ ArePlain row

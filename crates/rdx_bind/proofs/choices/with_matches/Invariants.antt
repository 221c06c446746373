use Rattle.std.proofs.Common.{◌↔◌, List, drop}
use Rattle.rdx_lang.specs.Bindings.{Binding}
use Rattle.rdx_lang.specs.Collecting.{Arises}
use Rattle.rdx_bind.specs.Choices.{IsContinued}
use Rattle.rdx_bind.specs.Combining.{rows_of}
use Rattle.rdx_bind.specs.Rows.{all_matches, split_rows_of}
use Rattle.rdx_bind.proofs.choices.with_matches.Given as goal

abbrev pub invariant-loop-cell : goal.invariant-loop-cell
invariant-loop-cell l =
    (cs : List Binding) → (Arises (IsContinued (all_matches (split_rows_of (drop l.cell-index l.cells)))) (rows_of l.found.items) cs
    ↔ Arises (IsContinued (all_matches (split_rows_of l.cells))) (rows_of l.fn.lists.items) cs)

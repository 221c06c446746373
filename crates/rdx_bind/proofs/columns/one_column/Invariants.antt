use Rattle.std.proofs.Common.{drop}
use Rattle.rdx_bind.specs.Rows.{split_rows_of}
use Rattle.rdx_bind.proofs.ColumnLoops.{OnesSoFar}
use Rattle.rdx_bind.proofs.columns.one_column.Given as goal

abbrev pub invariant-loop-i : goal.invariant-loop-i
invariant-loop-i l =
    OnesSoFar l.asks (split_rows_of l.cells) (split_rows_of l.nexts) (drop l.i l.asks) (split_rows_of (drop l.i l.cells)) (split_rows_of (drop l.i l.nexts)) (split_rows_of l.found.items)

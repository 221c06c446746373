use Rattle.std.proofs.Common.{◌≡◌, ◌++◌, drop}
use Rattle.rdx_bind.specs.Combining.{rows_of}
use Rattle.rdx_bind.specs.Rows.{all_matches, split_rows_of}
use Rattle.rdx_bind.proofs.rows.matches_across.Given as goal

abbrev pub invariant-loop-row : goal.invariant-loop-row
invariant-loop-row l = rows_of l.matches.items ++ all_matches (split_rows_of (drop l.row-index l.rows)) ≡ all_matches (split_rows_of l.rows)

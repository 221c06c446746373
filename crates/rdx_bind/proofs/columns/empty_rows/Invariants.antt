use Rattle.std.proofs.Common.{◌≡◌}
use Rattle.rdx_bind.specs.Ones.{empty_rows}
use Rattle.rdx_bind.specs.Rows.{split_rows_of}
use Rattle.rdx_bind.proofs.columns.empty_rows.Given as goal

abbrev pub invariant-loop : goal.invariant-loop
invariant-loop l = split_rows_of l.found.items ≡ empty_rows l.counter

use Rattle.std.proofs.Common.{ℕ, ◌<◌, ◌≤◌}
use Rattle.rdx_enum.specs.Inside.Rows.{row_of, Keeps, CombinesAt, HasOnly}
use Rattle.rdx_enum.proofs.rows.add_combined.Given as goal

abbrev pub invariant-loop-j : goal.invariant-loop-j
invariant-loop-j l = record {
  kept : Keeps (row_of l.initial.out) (row_of l.out);
  made : (j : ℕ) → l.from ≤ j → j < l.j → CombinesAt l.way l.heads l.tails j l.total (row_of l.out);
  only : HasOnly l.way l.heads l.tails l.total (row_of l.initial.out) (row_of l.out);
}

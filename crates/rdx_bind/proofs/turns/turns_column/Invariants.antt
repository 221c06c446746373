use Rattle.std.proofs.Common.{drop, reverse}
use Rattle.rdx_bind.specs.Choices.{length_name}
use Rattle.rdx_bind.specs.Ends.{AreWays}
use Rattle.rdx_bind.specs.Rows.{split_rows_of}
use Rattle.rdx_bind.specs.Turns.{AreTurns}
use Rattle.rdx_bind.proofs.turns.turns_column.Given as goal

abbrev pub invariant-loop-i : goal.invariant-loop-i
invariant-loop-i l = record {
  ways : AreWays (split_rows_of (drop l.i l.cells)) (split_rows_of (drop l.i l.nexts)) l.ways.ends.items l.ways.split_ends.items l.ways.split_nexts.items;
  rows : AreTurns l.repetition.names.now (length_name l.repetition.length) (drop l.i l.asks) (split_rows_of (drop l.i l.cells)) (split_rows_of (drop l.i l.nexts)) (reverse (split_rows_of l.rows.items));
}

use Rattle.std.proofs.Common.{◌+◌, drop}
use Rattle.rdx_term.specs.Tree.{trees}
use Rattle.rdx_bind.specs.Rows.{split_rows_of}
use Rattle.rdx_bind.proofs.ColumnLoops.{TurnsSoFar}
use Rattle.rdx_store.specs.Stored.{trees_by_ids}
use Rattle.rdx_table.specs.Inside.Cells.{cells_pattern, cells_trees}
use Rattle.rdx_table.specs.Inside.Looks.{language_of_look, trees_of_look}
use Rattle.rdx_table.proofs.cells.Cells.turns.Given as goal

abbrev pub invariant-loop-i : goal.invariant-loop-i
invariant-loop-i l =
    TurnsSoFar (language_of_look l.self.look) (cells_pattern l.self) l.self.place (trees (cells_trees l.self)) l.asks (l.self.place + l.i)
    (trees (trees_by_ids (trees_of_look l.self.look) (drop l.i l.self.ids.now))) (drop l.i l.asks) l.before
    l.asked.items (split_rows_of l.cells.items)

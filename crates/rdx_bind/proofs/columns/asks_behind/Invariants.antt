use Rattle.std.proofs.Common.{◌≡◌, ◌∷◌, ◌++◌, drop}
use Rattle.rdx_bind.specs.Columns.{asks_behind}
use Rattle.rdx_bind.specs.Rows.{split_rows_of}
use Rattle.rdx_bind.specs.declared.asks.Ask.TheVariants.{Nothing}
use Rattle.rdx_bind.proofs.columns.asks_behind.Given as goal

abbrev pub invariant-loop-i : goal.invariant-loop-i
invariant-loop-i l = l.asked.items ++ asks_behind (drop l.i l.asks) (split_rows_of (drop l.i l.cells)) ≡ Nothing ∷ asks_behind l.asks (split_rows_of l.cells)

use Rattle.std.proofs.Common.{◌≡◌, take}
use Rattle.rdx_lang.specs.Members.{In}
use Rattle.rdx_enum.specs.declared.tables.Table.{Table}
use Rattle.rdx_enum.proofs.growing.table_of.Given as goal

abbrev pub invariant-loop-table : goal.invariant-loop-table
invariant-loop-table l = (t : Table) → In t (take l.table-index l.tables) → t.name ≡ l.name → ⊥

use Rattle.std.proofs.Common.{◌≡◌, List, take, map}
use Rattle.rdx_lang.specs.Patterns.{Language}
use Rattle.rdx_term.specs.Tree.{Tree}
use Rattle.rdx_enum.specs.Inside.Tables.{AreTables, AreFilled, table_name}
use Rattle.rdx_enum.proofs.terms.no_rows.Given as goal

abbrev pub invariant-loop-name : goal.invariant-loop-name
invariant-loop-name l = record {
  names : map table_name l.tables.items ≡ take l.name-index l.order;
  filled : AreFilled 0 0 l.tables.items;
  tables : (L : Language) (P : List Tree) → AreTables L P l.tables.items;
}

use Rattle.std.proofs.Common.{◌≡◌, map}
use Rattle.rdx_lang.specs.Checked.{language_in}
use Rattle.rdx_term.specs.View.{tree_of}
use Rattle.rdx_enum.specs.Inside.Tables.{AreTables, AreFilled, table_name}
use Rattle.rdx_enum.proofs.terms.tables_up_to.Given as goal

abbrev pub invariant-loop-n : goal.invariant-loop-n
invariant-loop-n g l = record {
  tables : AreTables (language_in l.language) (map tree_of l.pool) l.tables.items;
  filled : AreFilled l.n 0 l.tables.items;
  names : map table_name l.tables.items ≡ l.order.items;
}

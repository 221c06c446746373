use Rattle.std.proofs.Common.{◌≡◌, map}
use Rattle.rdx_lang.specs.Checked.{language_in}
use Rattle.rdx_term.specs.View.{tree_of}
use Rattle.rdx_enum.specs.Inside.Tables.{AreTables, AreFilled, table_name}
use Rattle.rdx_enum.proofs.terms.add_rows.Given as goal

abbrev pub invariant-loop-i : goal.invariant-loop-i
invariant-loop-i g l = record {
  tables : AreTables (language_in l.language) (map tree_of l.pool) l.tables.items;
  filled : AreFilled l.n l.i l.tables.items;
  names : map table_name l.tables.items ≡ map table_name l.initial.tables.items;
}

use Rattle.std.proofs.Common.{◌≡◌, ◌++◌, [], ◌∷◌, length, sym, ap, subst, arith}
use Rattle.std.proofs.lemmas.Grind.{common_steps}
use Rattle.rdx_enum.specs.declared.tables.Table.{Table}
use Rattle.rdx_enum.specs.Inside.Tables.{AreFilled}
use Rattle.rdx_enum.proofs.TableLaws.{tables_more, table_none, filled_none}
use Rattle.rdx_enum.proofs.terms.no_rows.Goals as goal

pub loop-name-preserved : goal.loop-name-preserved
loop-name-preserved c =
    let t : Table = record { name = c.in_ok-share.field-0; terms = c.new.result; contexts = c.new-in-loop-name.result } in
    let e : c.push.new.self.items ≡ c.loop-name.tables.items ++ t ∷ [] = grind (arith, common_steps) in
    record {
      names = grind (arith, common_steps);
      filled = subst (AreFilled 0 0) (sym e) (filled_none c.loop-name.tables.items t c.loop-name.invariant.filled (ap length c.new.ensures.items));
      tables = λ L P. tables_more L P c.loop-name.tables.items _ t e (c.loop-name.invariant.tables L P) (table_none L P t c.new.ensures.items c.new-in-loop-name.ensures.items);
    }

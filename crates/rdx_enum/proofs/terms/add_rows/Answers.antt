use Rattle.std.proofs.Common.{◌≡◌, ◌+◌, ◌<◌, ℕ, suc, List, length, get_or, set, map, ap, subst, sym, ◌∙◌, arith}
use Rattle.rdx_lang.specs.Checked.{language_in, ranks_in}
use Rattle.rdx_lang.specs.Members.{In}
use Rattle.rdx_lang.specs.Patterns.{Language, nt}
use Rattle.rdx_lang.specs.declared.pattern.Ref.{Ref}
use Rattle.rdx_term.specs.Tree.{Tree}
use Rattle.rdx_term.specs.View.{tree_of}
use Rattle.rdx_enum.specs.declared.tables.Table.{Table}
use Rattle.rdx_enum.specs.Inside.Growing.{IsRow}
use Rattle.rdx_enum.specs.Inside.Order.{IsInOrder}
use Rattle.rdx_enum.specs.Inside.Rows.{row_of}
use Rattle.rdx_enum.specs.Inside.Tables.{AreFilled, IsReady, table_name}
use Rattle.rdx_enum.specs.UpTo.{MatchesSome}
use Rattle.rdx_enum.proofs.Readiness.{alternatives_ready, length-names}
use Rattle.rdx_enum.proofs.TableLaws.{in_names, in_at, both_at, names_set, filled_set, filled_at, filled_end, tables_set, table_more, size_more}
use Rattle.rdx_enum.proofs.terms.add_rows.Goals as goal

-- lists with the same names are as long
same_length : (xs ys : List Table) → map table_name xs ≡ map table_name ys → length xs ≡ length ys
same_length xs ys e = sym (length-names xs) ∙ ap length e ∙ length-names ys

pub row_from-requires-clause-defined : goal.row_from-requires-clause-defined
row_from-requires-clause-defined g c =
    let ts = c.loop-i.tables.items in
    let s : length ts ≡ length c.args.tables.now.items = same_length ts c.args.tables.now.items c.loop-i.invariant.names in
    let i : In c.index.result.now.name (map table_name ts) = in_names ts c.loop-i.i c.index.result.now (omega arith) c.index.ensures in
    c.requires.order.each c.in_ok-name.name (subst (λ (x : Ref). In x (map table_name c.args.tables.now.items)) (sym c.in_ok-name.ensures)
    (subst (λ (xs : List Ref). In c.index.result.now.name xs) c.loop-i.invariant.names i))

pub row_from-requires-clause-ready : goal.row_from-requires-clause-ready
row_from-requires-clause-ready g c p h =
    let L : Language = language_in c.args.language.now in
    let ts = c.loop-i.tables.items in
    let s : length ts ≡ length c.args.tables.now.items = same_length ts c.args.tables.now.items c.loop-i.invariant.names in
    let o : IsInOrder L (ranks_in c.args.language.now) (map table_name ts) = subst (IsInOrder L (ranks_in c.args.language.now)) (sym c.loop-i.invariant.names) c.requires.order in
    subst (λ us. IsReady L us p c.args.n) (sym c.deref.ensures.value)
    (alternatives_ready L (ranks_in c.args.language.now) ts c.args.n c.loop-i.i o c.loop-i.invariant.filled c.in_ok-name.name c.index.result.now (omega arith) c.index.ensures (sym c.in_ok-name.ensures)
    c.args.language.now.well_formed c.args.language.now.ranked p h)

pub loop-i-preserved : goal.loop-i-preserved
loop-i-preserved g c =
    let L : Language = language_in c.args.language.now in
    let P : List Tree = map tree_of c.args.pool.now in
    let ts = c.loop-i.tables.items in
    let i : ℕ = c.loop-i.i in
    let t : Table = c.index_mut.result.now in
    let a : Table = c.add_row.new.table in
    let s : length ts ≡ length c.args.tables.now.items = same_length ts c.args.tables.now.items c.loop-i.invariant.names in
    let l : i < length ts = omega arith in
    let e : t ≡ get_or ts i t = c.index_mut.ensures.value in
    let n : c.in_ok-name.name ≡ t.name = c.in_ok-name.ensures ∙ ap table_name (both_at ts i c.index.result.now t l c.index.ensures e) in
    let size = filled_at c.args.n i ts t c.loop-i.invariant.filled l e in
    let row : IsRow L P t.name c.args.n (row_of c.in_ok-row.row.terms) (row_of c.in_ok-row.row.contexts) =
    subst (λ (x : Ref). IsRow L P x c.args.n (row_of c.in_ok-row.row.terms) (row_of c.in_ok-row.row.contexts)) n c.in_ok-row.ensures.row in
    let met : (u : Tree) → In u (row_of c.in_ok-row.row.terms) → MatchesSome L (nt t.name) u = λ u h. subst (λ (x : Ref). MatchesSome L (nt x) u) n (c.in_ok-row.ensures.met u h) in
    let b = c.loop-i.invariant.tables t (in_at ts i t l e) in
    let more = table_more L P c.args.n t a c.in_ok-row.row.terms c.in_ok-row.row.contexts b size c.in_ok-add_row.ensures.name c.in_ok-add_row.ensures.terms c.in_ok-add_row.ensures.contexts row met in
    let bigger = size_more L P c.args.n t a c.in_ok-row.row.terms c.in_ok-row.row.contexts b size c.in_ok-add_row.ensures.name c.in_ok-add_row.ensures.terms c.in_ok-add_row.ensures.contexts row met in
    let j : suc i ≡ i + 1 = omega arith in
    record {
      tables = tables_set L P ts i a c.loop-i.invariant.tables more;
      filled = subst (λ (k : ℕ). AreFilled c.args.n k (set ts i a)) j (filled_set c.args.n i ts a c.loop-i.invariant.filled l bigger);
      names = names_set ts i a t l e c.in_ok-add_row.ensures.name ∙ c.loop-i.invariant.names;
    }

pub returns-clause-filled : goal.returns-clause-filled
returns-clause-filled g c =
    let s : length c.loop-i.tables.items ≡ length c.args.tables.now.items = same_length c.loop-i.tables.items c.args.tables.now.items c.loop-i.invariant.names in
    filled_end c.args.n c.loop-i.i c.loop-i.tables.items c.loop-i.invariant.filled (omega arith)

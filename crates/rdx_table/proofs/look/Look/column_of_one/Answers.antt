use Rattle.std.proofs.Common.{◌≡◌, List, ◌∷◌, length, sym, ◌∙◌, ap, subst, arith}
use Rattle.std.proofs.lemmas.List.{length-map}
use Rattle.rdx_term.specs.Tree.{Tree, trees}
use Rattle.rdx_lang.specs.Patterns.{Pattern, Items, Language}
use Rattle.rdx_lang.specs.PatternView.{Slot, items_of}
use Rattle.rdx_bind.specs.Columns.{AreCells, IsColumn, asks_behind}
use Rattle.rdx_bind.specs.Ones.{AreOnes}
use Rattle.rdx_bind.specs.Rows.{SplitRow, split_row_of, split_rows_of}
use Rattle.rdx_bind.specs.declared.asks.Ask.{Ask}
use Rattle.rdx_bind.specs.declared.asks.Ask.TheVariants.{Nothing}
use Rattle.rdx_bind.proofs.AskedRows.{asked-length, cells-length, column-length}
use Rattle.rdx_bind.proofs.OneColumns.{ones-column}
use Rattle.rdx_store.specs.Stored.{trees_by_ids}
use Rattle.rdx_nodes.specs.Nodes.{pattern_at}
use Rattle.rdx_table.specs.Inside.Cells.{slots_behind}
use Rattle.rdx_table.specs.Inside.Looks.{language_of_look, patterns_of_look, trees_of_look}
use Rattle.rdx_table.specs.Inside.Tasks.{column_trees}
use Rattle.rdx_table.proofs.CellGoals.{cells-found}
use Rattle.rdx_table.proofs.look.Look.column_of_one.Goals as goal

pub asks_behind-requires : goal.asks_behind-requires
asks_behind-requires c =
    let n = cells-length c.in_ok-cells.ensures.found in
    let m = length-map c.in_ok-cells.cells.items split_row_of in
    let d : length c.deref.result.now ≡ length c.args.column.now.asks.items = ap length c.deref.ensures.value in
    let e : length c.deref-2.result.now ≡ length c.args.column.now.asks.items = ap length c.deref-2.ensures.value in
    let f : length c.deref-3.result.now ≡ length c.in_ok-cells.cells.items = ap length c.deref-3.ensures.value in
    record { places = omega arith }

pub behind-requires-clause-places : goal.behind-requires-clause-places
behind-requires-clause-places c =
    let n = cells-length c.in_ok-cells.ensures.found in
    let m = length-map c.in_ok-cells.cells.items split_row_of in
    let d : length c.deref.result.now ≡ length c.args.column.now.asks.items = ap length c.deref.ensures.value in
    let e : length c.deref-2.result.now ≡ length c.args.column.now.asks.items = ap length c.deref-2.ensures.value in
    let f : length c.deref-3.result.now ≡ length c.in_ok-cells.cells.items = ap length c.deref-3.ensures.value in
    asked-length c.deref-2.result.now c.in_ok-asked.asked.items c.deref-3.result.now (omega arith) c.in_ok-asked.ensures ∙ e

pub one_column-requires-clause-places : goal.one_column-requires-clause-places
one_column-requires-clause-places c =
    let n = cells-length c.in_ok-cells.ensures.found in
    let m = length-map c.in_ok-cells.cells.items split_row_of in
    let d : length c.deref.result.now ≡ length c.args.column.now.asks.items = ap length c.deref.ensures.value in
    let e : length c.deref-4.result.now ≡ length c.args.column.now.asks.items = ap length c.deref-4.ensures.value in
    let f : length c.deref-5.result.now ≡ length c.in_ok-cells.cells.items = ap length c.deref-5.ensures.value in
    omega arith

pub one_column-requires-clause-behind : goal.one_column-requires-clause-behind
one_column-requires-clause-behind c =
    let n = cells-length c.in_ok-cells.ensures.found in
    let m = length-map c.in_ok-cells.cells.items split_row_of in
    let d : length c.deref.result.now ≡ length c.args.column.now.asks.items = ap length c.deref.ensures.value in
    let e : length c.deref-2.result.now ≡ length c.args.column.now.asks.items = ap length c.deref-2.ensures.value in
    let f : length c.deref-3.result.now ≡ length c.in_ok-cells.cells.items = ap length c.deref-3.ensures.value in
    let g : length c.deref-5.result.now ≡ length c.in_ok-cells.cells.items = ap length c.deref-5.ensures.value in
    let k = asked-length c.deref-2.result.now c.in_ok-asked.asked.items c.deref-3.result.now (omega arith) c.in_ok-asked.ensures in
    let j = column-length c.in_ok-asked.asked.items c.in_ok-nexts.nexts.now c.in_ok-nexts.ensures.found in
    omega arith

pub returns-clause-found : goal.returns-clause-found
returns-clause-found c =
    let L : Language = language_of_look c.args.self.now in
    let ts : List Tree = trees_of_look c.args.self.now in
    let p : Pattern = pattern_at (patterns_of_look c.args.self.now) c.args.number in
    let ps : Items = items_of (slots_behind c.args.self.now c.args.column.now) in
    let terms : List Tree = column_trees L (patterns_of_look c.args.self.now) ts c.args.column.now in
    let asks : List Ask = c.args.column.now.asks.items in
    let cells : List SplitRow = split_rows_of c.in_ok-cells.cells.items in
    let nexts : List SplitRow = split_rows_of c.in_ok-nexts.nexts.now in
    let rows : List SplitRow = split_rows_of c.in_ok-rows.rows.items in
    let found : AreCells L p c.args.column.now.place (trees terms) asks cells =
    cells-found c.in_ok-source.source c.args.self.now c.args.number c.args.column.now.place terms c.deref.result.now asks cells
    c.in_ok-source.ensures.look c.in_ok-source.ensures.number c.in_ok-source.ensures.place
    (ap (trees_by_ids ts) c.in_ok-source.ensures.ids ∙ c.terms.ensures.terms) c.deref.ensures.value c.in_ok-cells.ensures.found in
    let asked : c.in_ok-asked.asked.items ≡ Nothing ∷ asks_behind asks cells =
    c.in_ok-asked.ensures ∙ ap (λ (qs : List Ask). Nothing ∷ asks_behind qs (split_rows_of c.deref-3.result.now)) c.deref-2.ensures.value
    ∙ ap (λ xs. Nothing ∷ asks_behind asks (split_rows_of xs)) c.deref-3.ensures.value in
    let behind : IsColumn L ps c.args.column.now.place (trees terms) (Nothing ∷ asks_behind asks cells) nexts =
    subst (λ (qs : List Ask). IsColumn L ps c.args.column.now.place (trees terms) qs nexts) asked c.in_ok-nexts.ensures.found in
    let u : AreOnes asks cells nexts rows =
    subst (λ (qs : List Ask). AreOnes qs cells nexts rows) c.deref-4.ensures.value
    (subst (λ xs. AreOnes c.deref-4.result.now (split_rows_of xs) nexts rows) c.deref-5.ensures.value c.in_ok-rows.ensures) in
    subst (λ (slots : List Slot). IsColumn L (items_of slots) c.args.column.now.place (trees terms) asks rows) (sym c.requires.item)
    (ones-column found behind u)

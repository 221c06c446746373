use Rattle.std.proofs.Common.{◌≡◌, ℕ, ◌+◌, List, Option, length, refl, sym, ◌∙◌, ap, subst, arith}
use Rattle.std.proofs.lemmas.List.{length-map}
use Rattle.std.specs.Prelude.{option_copied}
use Rattle.rdx_term.specs.Tree.{Tree, trees}
use Rattle.rdx_lang.proofs.NameLaws.{names-ascend}
use Rattle.rdx_lang.specs.Ascending.{IsAscending}
use Rattle.rdx_lang.specs.Bindings.{name_cmp}
use Rattle.rdx_lang.specs.Names.{names}
use Rattle.rdx_lang.specs.Patterns.{Pattern, Items, Language}
use Rattle.rdx_lang.specs.PatternView.{Slot, items_of}
use Rattle.rdx_bind.specs.Columns.{AreCells, IsColumn, carried}
use Rattle.rdx_bind.specs.Rows.{SplitRow, split_row_of, split_rows_of}
use Rattle.rdx_bind.specs.Turns.{AreTurns, BindExactly}
use Rattle.rdx_bind.specs.declared.asks.Ask.{Ask}
use Rattle.rdx_bind.specs.declared.asks.Ask.TheVariants.{Nothing}
use Rattle.rdx_bind.proofs.AskedRows.{cells-length, cells-bind, column-length}
use Rattle.rdx_bind.proofs.TurnColumns.{IsAsked, carried-asked, turns-column}
use Rattle.rdx_store.specs.Stored.{tree_by_id, trees_by_ids}
use Rattle.rdx_nodes.specs.Nodes.{pattern_at}
use Rattle.rdx_table.specs.Inside.Cells.{cells_trees, slots_behind}
use Rattle.rdx_table.specs.Inside.Looks.{language_of_look, patterns_of_look, trees_of_look}
use Rattle.rdx_table.specs.Inside.Tasks.{column_trees}
use Rattle.rdx_table.proofs.CellGoals.{cells-found}
use Rattle.rdx_table.proofs.ColumnTrees.{cells-count}
use Rattle.rdx_table.proofs.look.Look.column_of_many.Goals as goal

pub behind-requires-clause-places : goal.behind-requires-clause-places
behind-requires-clause-places c =
    let n = cells-length c.in_ok-asked.ensures.cells in
    let m = length-map c.in_ok-asked.cells.items split_row_of in
    let k : length c.in_ok-asked.cells.items ≡ length c.terms.result.now =
    cells-count (cells_trees c.in_ok-source.source) c.in_ok-asked.cells.items c.in_ok-asked.ensures.cells
    ∙ length-map c.in_ok-source.source.ids.now (tree_by_id (trees_of_look c.in_ok-source.source.look)) ∙ ap length c.in_ok-source.ensures.ids in
    omega (arith, c.terms.ensures.places)

pub turns_column-requires-clause-ascending : goal.turns_column-requires-clause-ascending
turns_column-requires-clause-ascending c =
    subst (λ (xs : List (List ℕ)). IsAscending name_cmp xs) (sym (c.deref-2.ensures.value ∙ c.requires.names))
    (names-ascend (pattern_at (patterns_of_look c.args.self.now) c.args.turns.now.number))

pub turns_column-requires-clause-places : goal.turns_column-requires-clause-places
turns_column-requires-clause-places c =
    let k : length c.in_ok-asked.cells.items ≡ length c.terms.result.now =
    cells-count (cells_trees c.in_ok-source.source) c.in_ok-asked.cells.items c.in_ok-asked.ensures.cells
    ∙ length-map c.in_ok-source.source.ids.now (tree_by_id (trees_of_look c.in_ok-source.source.look)) ∙ ap length c.in_ok-source.ensures.ids in
    let d : length c.deref-3.result.now ≡ length c.args.column.now.asks.items = ap length c.deref-3.ensures.value in
    let e : length c.deref-4.result.now ≡ length c.in_ok-asked.cells.items = ap length c.deref-4.ensures.value in
    omega (arith, c.terms.ensures.places)

pub turns_column-requires-clause-behind : goal.turns_column-requires-clause-behind
turns_column-requires-clause-behind c =
    let n = cells-length c.in_ok-asked.ensures.cells in
    let m = length-map c.in_ok-asked.cells.items split_row_of in
    let e : length c.deref-4.result.now ≡ length c.in_ok-asked.cells.items = ap length c.deref-4.ensures.value in
    let j = column-length c.in_ok-asked.asked.items c.in_ok-nexts.nexts.now c.in_ok-nexts.ensures.found in
    omega arith

pub turns_column-requires-clause-bound : goal.turns_column-requires-clause-bound
turns_column-requires-clause-bound c =
    let L : Language = language_of_look c.args.self.now in
    let ts : List Tree = trees_of_look c.args.self.now in
    let p : Pattern = pattern_at (patterns_of_look c.args.self.now) c.args.turns.now.number in
    let terms : List Tree = column_trees L (patterns_of_look c.args.self.now) ts c.args.column.now in
    let asked : List Ask = c.in_ok-asked.asked.items in
    let cells : List SplitRow = split_rows_of c.in_ok-asked.cells.items in
    let found : AreCells L p c.args.column.now.place (trees terms) asked cells =
    cells-found c.in_ok-source.source c.args.self.now c.args.turns.now.number c.args.column.now.place terms asked asked cells
    c.in_ok-source.ensures.look c.in_ok-source.ensures.number c.in_ok-source.ensures.place
    (ap (trees_by_ids ts) c.in_ok-source.ensures.ids ∙ c.terms.ensures.terms) refl c.in_ok-asked.ensures.cells in
    let b : BindExactly (names p) cells = cells-bind found in
    subst (λ (xs : List (List ℕ)). BindExactly xs (split_rows_of c.deref-4.result.now)) (sym (c.deref-2.ensures.value ∙ c.requires.names))
    (subst (λ (rows : List SplitRow). BindExactly (names p) rows) (sym (ap split_rows_of c.deref-4.ensures.value)) b)

pub returns-clause-found : goal.returns-clause-found
returns-clause-found c =
    let L : Language = language_of_look c.args.self.now in
    let ts : List Tree = trees_of_look c.args.self.now in
    let p : Pattern = pattern_at (patterns_of_look c.args.self.now) c.args.turns.now.number in
    let ps : Items = items_of (slots_behind c.args.self.now c.args.column.now) in
    let terms : List Tree = column_trees L (patterns_of_look c.args.self.now) ts c.args.column.now in
    let x : Option (List ℕ) = option_copied c.args.turns.now.length in
    let asks : List Ask = c.args.column.now.asks.items in
    let asked : List Ask = c.in_ok-asked.asked.items in
    let cells : List SplitRow = split_rows_of c.in_ok-asked.cells.items in
    let nexts : List SplitRow = split_rows_of c.in_ok-nexts.nexts.now in
    let rows : List SplitRow = split_rows_of c.in_ok-rows.rows.items in
    let found : AreCells L p c.args.column.now.place (trees terms) asked cells =
    cells-found c.in_ok-source.source c.args.self.now c.args.turns.now.number c.args.column.now.place terms asked asked cells
    c.in_ok-source.ensures.look c.in_ok-source.ensures.number c.in_ok-source.ensures.place
    (ap (trees_by_ids ts) c.in_ok-source.ensures.ids ∙ c.terms.ensures.terms) refl c.in_ok-asked.ensures.cells in
    let m = length-map c.in_ok-asked.cells.items split_row_of in
    let k : length c.in_ok-asked.cells.items ≡ length c.terms.result.now =
    cells-count (cells_trees c.in_ok-source.source) c.in_ok-asked.cells.items c.in_ok-asked.ensures.cells
    ∙ length-map c.in_ok-source.source.ids.now (tree_by_id (trees_of_look c.in_ok-source.source.look)) ∙ ap length c.in_ok-source.ensures.ids in
    let n : length asks ≡ length cells + 1 = omega (arith, c.terms.ensures.places) in
    let same : asked ≡ carried Nothing asks cells =
    c.in_ok-asked.ensures.asked ∙ ap (λ (qs : List Ask). carried Nothing qs cells) c.deref.ensures.value in
    let u : IsAsked asks cells asked = subst (λ (qs : List Ask). IsAsked asks cells qs) (sym same) (carried-asked Nothing asks cells n) in
    let r : AreTurns c.deref-2.result.now x asks cells nexts rows =
    subst (λ (qs : List Ask). AreTurns c.deref-2.result.now x qs cells nexts rows) c.deref-3.ensures.value
    (subst (λ xs. AreTurns c.deref-2.result.now x c.deref-3.result.now (split_rows_of xs) nexts rows) c.deref-4.ensures.value c.in_ok-rows.ensures) in
    let s : AreTurns (names p) x asks cells nexts rows =
    subst (λ (xs : List (List ℕ)). AreTurns xs x asks cells nexts rows) (c.deref-2.ensures.value ∙ c.requires.names) r in
    subst (λ (slots : List Slot). IsColumn L (items_of slots) c.args.column.now.place (trees terms) asks rows) (sym c.requires.item)
    (turns-column found c.in_ok-nexts.ensures.found u s)

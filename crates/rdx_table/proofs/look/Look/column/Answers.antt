use Rattle.std.proofs.Common.{◌≡◌, ℕ, ◌+◌, ◌-◌, ◌<◌, true, List, [], ◌∷◌, ◌++◌, length, get_or, take, drop, sym, ◌∙◌, ap, subst, arith}
use Rattle.std.specs.List.{list_all}
use Rattle.rdx_term.specs.Tree.{Tree, trees}
use Rattle.rdx_lang.specs.Patterns.{Pattern, nil, Language}
use Rattle.rdx_lang.specs.PatternView.{Slot, items_of}
use Rattle.rdx_bind.specs.Columns.{IsColumn}
use Rattle.rdx_bind.specs.Ones.{HasEnd, empty_rows, is_nothing}
use Rattle.rdx_bind.specs.Rows.{SplitRow, split_rows_of}
use Rattle.rdx_bind.specs.declared.asks.Ask.{Ask}
use Rattle.rdx_bind.proofs.AskedRows.{all-nothing}
use Rattle.rdx_store.specs.Stored.{tree_by_id}
use Rattle.rdx_nodes.specs.Nodes.{pattern_at, slot_at, IsEntry}
use Rattle.rdx_nodes.specs.declared.node.Entry.{Entry}
use Rattle.rdx_nodes.specs.declared.node.Entry.TheVariants as entry
use Rattle.rdx_table.specs.Inside.Cells.{slots_behind}
use Rattle.rdx_table.specs.Inside.Looks.{language_of_look, patterns_of_look, trees_of_look}
use Rattle.rdx_table.specs.Inside.Tasks.{column_slots, column_trees, items_in, slots_in}
use Rattle.rdx_table.proofs.ColumnTrees.{part-length, empty-column, last-column, first-entry, first-slot}
use Rattle.rdx_table.proofs.look.Look.column.Goals as goal

pub returns-then-nothing_asked-clause-found : goal.returns-then-nothing_asked-clause-found
returns-then-nothing_asked-clause-found c =
    let L : Language = language_of_look c.args.self.now in
    let ps : List Pattern = patterns_of_look c.args.self.now in
    let ts : List Tree = trees_of_look c.args.self.now in
    let terms : List Tree = column_trees L ps ts c.args.column.now in
    let asks : List Ask = c.args.column.now.asks.items in
    let places : length asks ≡ length terms + 1 =
    part-length (length asks) c.args.column.now.place (items_in (tree_by_id ts c.args.column.now.id)) c.requires.column.some
    c.requires.column.places in
    let a : list_all is_nothing asks ≡ true =
    ap (list_all is_nothing) (sym c.deref.ensures.value) ∙ sym c.nothing_asked.ensures ∙ c.if-nothing_asked.true in
    let n : c.len.result ≡ length asks = omega (arith, c.len.ensures) in
    subst (λ (rows : List SplitRow). IsColumn L (items_of (column_slots L ps ts c.args.column.now)) c.args.column.now.place (trees terms) asks rows)
    (sym (c.in_ok-rows.ensures ∙ ap empty_rows n)) (empty-column terms asks places (all-nothing asks a))

pub returns-then-column-clause-found : goal.returns-then-column-clause-found
returns-then-column-clause-found c =
    let L : Language = language_of_look c.args.self.now in
    let ps : List Pattern = patterns_of_look c.args.self.now in
    let ts : List Tree = trees_of_look c.args.self.now in
    let terms : List Tree = column_trees L ps ts c.args.column.now in
    let asks : List Ask = c.args.column.now.asks.items in
    let places : length asks ≡ length terms + 1 =
    part-length (length asks) c.args.column.now.place (items_in (tree_by_id ts c.args.column.now.id)) c.requires.column.some
    c.requires.column.places in
    let n : c.len-terms.result - 1 ≡ length terms = omega (arith, c.len-terms.ensures) in
    let d : Ask = c.index.result.now in
    let last : SplitRow = c.in_ok-rows-2.ensures.last in
    let has : HasEnd (get_or asks (length terms) d) last =
    subst (λ (j : ℕ). HasEnd (get_or asks j d) last) n (subst (λ (x : Ask). HasEnd x last) c.index.ensures c.in_ok-rows-2.ensures.has) in
    let rows : split_rows_of c.in_ok-rows-2.rows.items ≡ empty_rows (length terms) ++ last ∷ [] =
    c.in_ok-rows-2.ensures.same ∙ ap (λ (j : ℕ). empty_rows j ++ last ∷ []) n in
    let r : IsColumn L nil c.args.column.now.place (trees terms) asks (split_rows_of c.in_ok-rows-2.rows.items) =
    subst (λ (xs : List SplitRow). IsColumn L nil c.args.column.now.place (trees terms) asks xs) (sym rows)
    (last-column terms asks d last places has) in
    let z : c.args.column.now.last - c.args.column.now.first ≡ 0 = omega (arith, c.if-column.true) in
    let none : column_slots L ps ts c.args.column.now ≡ [] =
    ap (λ (j : ℕ). take j (drop c.args.column.now.first (slots_in (pattern_at ps c.args.column.now.number)))) z in
    subst (λ (slots : List Slot). IsColumn L (items_of slots) c.args.column.now.place (trees terms) asks (split_rows_of c.in_ok-rows-2.rows.items))
    (sym none) r

pub column_of_one-requires-clause-number : goal.column_of_one-requires-clause-number
column_of_one-requires-clause-number c =
    let ps : List Pattern = patterns_of_look c.args.self.now in
    let slots : List Slot = slots_in (pattern_at ps c.args.column.now.number) in
    let h : c.args.column.now.first < c.args.column.now.last = omega (arith, c.requires.column.items, c.if-column.false) in
    subst (IsEntry ps (length ps)) c.in-One.is
    (first-entry ps c.args.entries.now slots c.args.column.now.first c.args.column.now.last c.index-entries-column.result c.requires.slots h
    c.requires.column.within c.requires.entries c.index-entries-column.is)

pub column_of_one-requires-clause-item : goal.column_of_one-requires-clause-item
column_of_one-requires-clause-item c =
    let ps : List Pattern = patterns_of_look c.args.self.now in
    let slots : List Slot = slots_in (pattern_at ps c.args.column.now.number) in
    let h : c.args.column.now.first < c.args.column.now.last = omega (arith, c.requires.column.items, c.if-column.false) in
    first-slot ps c.args.entries.now slots c.args.column.now.first c.args.column.now.last c.index-entries-column.result c.requires.slots h
    c.requires.column.within c.index-entries-column.is
    ∙ ap (λ (e : Entry). slot_at ps e ∷ slots_behind c.args.self.now c.args.column.now) c.in-One.is

pub column_of_many-requires-clause-number : goal.column_of_many-requires-clause-number
column_of_many-requires-clause-number c =
    let ps : List Pattern = patterns_of_look c.args.self.now in
    let slots : List Slot = slots_in (pattern_at ps c.args.column.now.number) in
    let h : c.args.column.now.first < c.args.column.now.last = omega (arith, c.requires.column.items, c.if-column.false) in
    let e : IsEntry ps (length ps) (entry.Many c.in-Many.turns) = subst (IsEntry ps (length ps)) c.in-Many.is
    (first-entry ps c.args.entries.now slots c.args.column.now.first c.args.column.now.last c.index-entries-column.result c.requires.slots h
    c.requires.column.within c.requires.entries c.index-entries-column.is) in
    e.0

pub column_of_many-requires-clause-names : goal.column_of_many-requires-clause-names
column_of_many-requires-clause-names c =
    let ps : List Pattern = patterns_of_look c.args.self.now in
    let slots : List Slot = slots_in (pattern_at ps c.args.column.now.number) in
    let h : c.args.column.now.first < c.args.column.now.last = omega (arith, c.requires.column.items, c.if-column.false) in
    let e : IsEntry ps (length ps) (entry.Many c.in-Many.turns) = subst (IsEntry ps (length ps)) c.in-Many.is
    (first-entry ps c.args.entries.now slots c.args.column.now.first c.args.column.now.last c.index-entries-column.result c.requires.slots h
    c.requires.column.within c.requires.entries c.index-entries-column.is) in
    e.1

pub column_of_many-requires-clause-item : goal.column_of_many-requires-clause-item
column_of_many-requires-clause-item c =
    let ps : List Pattern = patterns_of_look c.args.self.now in
    let slots : List Slot = slots_in (pattern_at ps c.args.column.now.number) in
    let h : c.args.column.now.first < c.args.column.now.last = omega (arith, c.requires.column.items, c.if-column.false) in
    first-slot ps c.args.entries.now slots c.args.column.now.first c.args.column.now.last c.index-entries-column.result c.requires.slots h
    c.requires.column.within c.index-entries-column.is
    ∙ ap (λ (e : Entry). slot_at ps e ∷ slots_behind c.args.self.now c.args.column.now) c.in-Many.is

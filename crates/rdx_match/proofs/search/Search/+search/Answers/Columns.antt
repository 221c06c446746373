-- The answers on the columns, the first row and the middle of a list.
use Rattle.std.proofs.Common.{arith, ◌≡◌, ℕ, suc, ◌+◌, nat_eq, true, false, ◌&&◌, List, [], ◌∷◌, ◌++◌, Some, length, drop, get_or, map, ap, sym, ◌∙◌, subst, Option}
use Rattle.std.proofs.Math.ListN.{get_or-map}
use Rattle.std.proofs.lemmas.Grind.{common_steps}
use Rattle.std.proofs.lemmas.List.{nil_from_length, length-map, drop_more}
use Rattle.std.proofs.lemmas.Result.{IfOk-weaker}
use Rattle.std.specs.List.{list_all}
use Rattle.std.specs.Prelude.{not, option_copied}
use Rattle.rdx_term.specs.Tree.{Tree, Trees, trees}
use Rattle.rdx_term.specs.View.{tree_of, trees_of}
use Rattle.rdx_lang.proofs.Collecting.{In_along, no_member}
use Rattle.rdx_lang.specs.Ascending.{IsAscending}
use Rattle.rdx_lang.specs.Bindings.{Binding, name_cmp}
use Rattle.rdx_lang.specs.Collecting.{HasExactly}
use Rattle.rdx_lang.specs.Checked.{language_in}
use Rattle.rdx_lang.specs.Names.{names}
use Rattle.rdx_lang.proofs.NameLaws.{names-ascend}
use Rattle.rdx_lang.specs.Patterns.{Pattern, Items, nil, Language}
use Rattle.rdx_lang.specs.PatternView.{pattern_of, slot_of, items_of}
use Rattle.rdx_lang.proofs.Rest.{rest_at, rest_none}
use Rattle.rdx_lang.specs.Rules.{Match, MatchItems}
use Rattle.rdx_lang.specs.Shown.{bindings_of}
use Rattle.rdx_bind.specs.Columns.{HasAsked, has_nothing, has_matches, has_splits, IsColumn, asks_behind}
use Rattle.rdx_bind.specs.Combining.{rows_of}
use Rattle.rdx_bind.specs.Ones.{AreOnes, is_nothing, nothings}
use Rattle.rdx_bind.specs.Rows.{SplitRow, split_row_of, split_rows_of}
use Rattle.rdx_bind.specs.Spots.{spots_of, PlacedAt}
use Rattle.rdx_bind.specs.Turns.{AreTurns, BindExactly}
use Rattle.rdx_bind.specs.declared.asks.Ask.{Ask}
use Rattle.rdx_bind.specs.declared.asks.Ask.TheVariants.{Nothing}
use Rattle.rdx_bind.specs.PartRows.{IsSearched, HaveSpots, PartSplits}
use Rattle.rdx_bind.specs.Parts.{Part, part_of, BindAcross, rows_found, none_found}
use Rattle.rdx_bind.proofs.AskedRows.{all-nothing, nothings-length, asked-length, nothing-column, end-column, column-head, column-length, exactly_placed, cells-terms, cells-length, cells-bind}
use Rattle.rdx_bind.proofs.ColumnLoops.{last_left, cells-next, cells-end, turns-next, turns-asked, turns-end}
use Rattle.rdx_bind.proofs.Gathering.{exactly_listed}
use Rattle.rdx_bind.proofs.OneColumns.{ones-column}
use Rattle.rdx_bind.proofs.PartListings.{no_bindings, some_bindings}
use Rattle.rdx_bind.proofs.AcrossRows.{bindings_are_maps}
use Rattle.rdx_bind.proofs.SpotRows.{IsMapRow, spots_are_maps}
use Rattle.rdx_bind.proofs.Prefixes.{stays, ends}
use Rattle.rdx_bind.proofs.TurnColumns.{IsAsked, carried-asked, turns-column}
use Rattle.rdx_bind.proofs.MiddleRow.{row_binds, no_row_binds, asked_matches, asked_where, middle_found, middle_spots, middle_none, no_middle, some_spots}
use Rattle.rdx_match.proofs.search.Search.+search.Goals as goal
use Rattle.rdx_match.proofs.search.Search.+search.Goals.{middle_rows-then-all_match, middle_rows-else-all_match, middle_rows-else-is_empty-2-via-then-is_empty-2+else-is_empty-3, middle_rows-else-is_empty-2-via-else-is_empty-2}

-- ---- cells

pub cell-returns-in-Nothing : goal.cell-returns-in-Nothing
cell-returns-in-Nothing t c =
    let L : Language = language_in c.args.self.now.language.now in
    let p : Pattern = pattern_of c.args.pat.now in
    let u : Tree = tree_of c.args.t.now in
    let row : SplitRow = split_row_of c.empty_row.result in
    subst (λ a. HasAsked (Match L p u) (PlacedAt L c.args.place p u) a row) (sym c.in-Nothing.is)
    (has_nothing (ap (λ (r : SplitRow). r.matches) c.empty_row.ensures) (ap (λ (r : SplitRow). r.spots) c.empty_row.ensures))

pub cell-returns-in_ok-matches-in-Matches : goal.cell-returns-in_ok-matches-in-Matches
cell-returns-in_ok-matches-in-Matches t c =
    let L : Language = language_in c.args.self.now.language.now in
    let p : Pattern = pattern_of c.args.pat.now in
    let u : Tree = tree_of c.args.t.now in
    let row : SplitRow = record { matches = bindings_of c.in_ok-matches-in-Matches.matches.items; spots = spots_of c.new-spots.result.items } in
    subst (λ a. HasAsked (Match L p u) (PlacedAt L c.args.place p u) a row) (sym c.in-Matches.is)
    (has_matches (exactly_listed c.in_ok-matches-in-Matches.ensures) (ap spots_of c.new-spots.ensures.items))

pub cell-returns-in_ok-spots-in-Splits-2 : goal.cell-returns-in_ok-spots-in-Splits-2
cell-returns-in_ok-spots-in-Splits-2 t c =
    let L : Language = language_in c.args.self.now.language.now in
    let p : Pattern = pattern_of c.args.pat.now in
    let u : Tree = tree_of c.args.t.now in
    let row : SplitRow = record { matches = bindings_of c.in_ok-matches-in-Splits.matches.items; spots = spots_of c.in_ok-spots-in-Splits-2.spots.items } in
    let s : HasExactly row.spots (PlacedAt L c.args.place p u) = exactly_placed (spots_of c.in_ok-spots-in-Splits.spots.items) c.in_ok-spots-in-Splits.ensures c.in_ok-spots-in-Splits-2.ensures in
    subst (λ a. HasAsked (Match L p u) (PlacedAt L c.args.place p u) a row) (sym c.in-Splits.is)
    (has_splits (exactly_listed c.in_ok-matches-in-Splits.ensures) s)

pub cells-loop-i-preserved : goal.cells-loop-i-preserved
cells-loop-i-preserved t c =
    let i : ℕ = c.loop-i.i in
    let ts = c.args.ts.now in
    let term = c.index-ts-i.result in
    let cells : List SplitRow = split_rows_of c.loop-i.cells.items in
    let f = ap trees (rest_at tree_of ts i term (omega arith) c.index-ts-i.is) in
    let q : split_rows_of c.push.new.self.items ≡ cells ++ split_row_of c.in_ok-cell.cell ∷ [] = grind (arith, common_steps) in
    cells-next cells (split_rows_of c.push.new.self.items) (omega arith) f (drop_more c.args.asks.now i _ (omega (arith, c.requires.places))) q c.in_ok-cell.ensures c.loop-i.invariant

pub cells-returns : goal.cells-returns
cells-returns t c =
    let i : ℕ = c.loop-i.i in
    let n : i ≡ length c.args.ts.now = omega arith in
    cells-end (split_rows_of c.loop-i.cells.items) (ap trees (rest_none tree_of c.args.ts.now i (omega arith))) (last_left c.args.asks.now i (length c.args.ts.now) Nothing n c.requires.places) c.loop-i.invariant

pub turns-loop-i-preserved : goal.turns-loop-i-preserved
turns-loop-i-preserved t c =
    let i : ℕ = c.loop-i.i in
    let ts = c.args.ts.now in
    let term = c.index-ts-i.result in
    let cells : List SplitRow = split_rows_of c.loop-i.cells.items in
    let f = ap trees (rest_at tree_of ts i term (omega arith) c.index-ts-i.is) in
    let g = drop_more c.args.asks.now i Nothing (omega (arith, c.requires.places)) in
    let w : split_rows_of c.push-in-loop-i.new.self.items ≡ cells ++ split_row_of c.in_ok-cell.cell ∷ [] = grind (arith, common_steps) in
    turns-next c.loop-i.asked.items c.push.new.self.items cells (split_rows_of c.push-in-loop-i.new.self.items) (omega arith) f g c.and-ask.ensures c.behind-before.ensures c.in_ok-push.ensures.items w c.in_ok-cell.ensures c.loop-i.invariant

pub turns-returns-clause-asked : goal.turns-returns-clause-asked
turns-returns-clause-asked t c =
    let i : ℕ = c.loop-i.i in
    let asks : List Ask = c.args.asks.now in
    let n : i ≡ length c.args.ts.now = omega arith in
    let m : ℕ = length c.args.ts.now in
    let a : Ask = get_or asks m Nothing in
    let f : drop i asks ≡ a ∷ [] = last_left asks i m Nothing n c.requires.places in
    turns-asked c.loop-i.asked.items c.push-2.new.self.items (split_rows_of c.loop-i.cells.items) (ap trees (rest_none tree_of c.args.ts.now i (omega arith))) f c.in_ok-push-3.ensures.items c.and.ensures c.loop-i.invariant

pub turns-returns-clause-cells : goal.turns-returns-clause-cells
turns-returns-clause-cells t c =
    let i : ℕ = c.loop-i.i in
    let asks : List Ask = c.args.asks.now in
    let n : i ≡ length c.args.ts.now = omega arith in
    let m : ℕ = length c.args.ts.now in
    let a : Ask = get_or asks m Nothing in
    let f : drop i asks ≡ a ∷ [] = last_left asks i m Nothing n c.requires.places in
    turns-end c.loop-i.asked.items c.push-2.new.self.items (split_rows_of c.loop-i.cells.items) (ap trees (rest_none tree_of c.args.ts.now i (omega arith))) f c.in_ok-push-3.ensures.items c.and.ensures c.loop-i.invariant

-- ---- columns

pub column_of_one-asks_behind-requires : goal.column_of_one-asks_behind-requires
column_of_one-asks_behind-requires t c =
    let m : length c.deref.result.now ≡ length c.args.ts.now = ap length c.deref.ensures.value ∙ cells-terms c.args.ts.now c.in_ok-cells.cells.items c.in_ok-cells.ensures in
    record { places = omega (arith, c.requires.places) }

pub column_of_one-column-requires : goal.column_of_one-column-requires
column_of_one-column-requires t c =
    let m : length c.deref.result.now ≡ length c.args.ts.now = ap length c.deref.ensures.value ∙ cells-terms c.args.ts.now c.in_ok-cells.cells.items c.in_ok-cells.ensures in
    let k : length c.deref-2.result.now ≡ length c.args.asks.now = ap length c.deref-2.ensures.value ∙ asked-length c.args.asks.now c.in_ok-asked.asked.items c.deref.result.now (omega (arith, c.requires.places)) c.in_ok-asked.ensures in
    (omega (arith, c.decreases), (omega (arith, c.requires.places), c.requires.within))

pub column_of_one-one_column-requires-clause-places : goal.column_of_one-one_column-requires-clause-places
column_of_one-one_column-requires-clause-places t c =
    let m : length c.deref-3.result.now ≡ length c.args.ts.now = ap length c.deref-3.ensures.value ∙ cells-terms c.args.ts.now c.in_ok-cells.cells.items c.in_ok-cells.ensures in
    omega (arith, c.requires.places)

pub column_of_one-one_column-requires-clause-behind : goal.column_of_one-one_column-requires-clause-behind
column_of_one-one_column-requires-clause-behind t c =
    let i : length c.deref.result.now ≡ length c.args.ts.now = ap length c.deref.ensures.value ∙ cells-terms c.args.ts.now c.in_ok-cells.cells.items c.in_ok-cells.ensures in
    let k : length c.deref-2.result.now ≡ length c.args.asks.now = ap length c.deref-2.ensures.value ∙ asked-length c.args.asks.now c.in_ok-asked.asked.items c.deref.result.now (omega (arith, c.requires.places)) c.in_ok-asked.ensures in
    let m : length c.deref-3.result.now ≡ length c.args.ts.now = ap length c.deref-3.ensures.value ∙ cells-terms c.args.ts.now c.in_ok-cells.cells.items c.in_ok-cells.ensures in
    let n : length c.deref-4.result.now ≡ length c.deref-2.result.now = ap length c.deref-4.ensures.value ∙ column-length c.deref-2.result.now c.in_ok-nexts.nexts.items c.in_ok-nexts.ensures in
    omega (arith, c.requires.places)

pub column_of_one-returns : goal.column_of_one-returns
column_of_one-returns t c =
    let L : Language = language_in c.args.self.now.language.now in
    let ps : Items = items_of (map slot_of c.args.behind.now) in
    let asks : List Ask = c.args.asks.now in
    let ts : Trees = trees_of c.args.ts.now in
    let cells : List SplitRow = split_rows_of c.in_ok-cells.cells.items in
    let nexts : List SplitRow = split_rows_of c.in_ok-nexts.nexts.items in
    let asked : c.deref-2.result.now ≡ Nothing ∷ asks_behind asks cells = c.deref-2.ensures.value ∙ (rw c.deref.ensures.value at c.in_ok-asked.ensures) in
    let behind : IsColumn L ps c.args.place ts (Nothing ∷ asks_behind asks cells) nexts = subst (λ (qs : List Ask). IsColumn L ps c.args.place ts qs nexts) asked c.in_ok-nexts.ensures in
    IfOk-weaker c.one_column.result _ _ (λ v k.
    let u : AreOnes asks cells nexts (split_rows_of v.items) = rw c.deref-3.ensures.value at (rw c.deref-4.ensures.value at k) in
    ones-column c.in_ok-cells.ensures behind u) c.one_column.ensures

pub column_of_many-column-requires : goal.column_of_many-column-requires
column_of_many-column-requires t c =
    let m = cells-terms c.args.ts.now c.in_ok-asked.cells.items c.in_ok-asked.ensures.cells in
    let k = cells-length c.in_ok-asked.ensures.cells in
    let j = length-map c.in_ok-asked.cells.items split_row_of in
    let n : length c.deref.result.now ≡ length c.in_ok-asked.asked.items = ap length c.deref.ensures.value in
    (omega (arith, c.decreases), (omega arith, c.requires.within))

pub column_of_many-turns_column-requires-clause-ascending : goal.column_of_many-turns_column-requires-clause-ascending
column_of_many-turns_column-requires-clause-ascending t c =
    subst (λ (xs : List (List ℕ)). IsAscending name_cmp xs) (sym (c.deref-2.ensures.value ∙ c.in_ok-names.ensures)) (names-ascend (pattern_of c.args.pat.now))

pub column_of_many-turns_column-requires-clause-places : goal.column_of_many-turns_column-requires-clause-places
column_of_many-turns_column-requires-clause-places t c =
    let m : length c.deref-3.result.now ≡ length c.args.ts.now = ap length c.deref-3.ensures.value ∙ cells-terms c.args.ts.now c.in_ok-asked.cells.items c.in_ok-asked.ensures.cells in
    omega (arith, c.requires.places)

pub column_of_many-turns_column-requires-clause-behind : goal.column_of_many-turns_column-requires-clause-behind
column_of_many-turns_column-requires-clause-behind t c =
    let k = cells-length c.in_ok-asked.ensures.cells in
    let j = length-map c.in_ok-asked.cells.items split_row_of in
    let m : length c.deref.result.now ≡ length c.in_ok-asked.asked.items = ap length c.deref.ensures.value in
    let n : length c.deref-3.result.now ≡ length c.in_ok-asked.cells.items = ap length c.deref-3.ensures.value in
    let i : length c.deref-4.result.now ≡ length c.deref.result.now = ap length c.deref-4.ensures.value ∙ column-length c.deref.result.now c.in_ok-nexts.nexts.items c.in_ok-nexts.ensures in
    omega arith

pub column_of_many-turns_column-requires-clause-bound : goal.column_of_many-turns_column-requires-clause-bound
column_of_many-turns_column-requires-clause-bound t c =
    let cells : List SplitRow = split_rows_of c.in_ok-asked.cells.items in
    let b : BindExactly (names (pattern_of c.args.pat.now)) cells = cells-bind c.in_ok-asked.ensures.cells in
    subst (λ (xs : List (List ℕ)). BindExactly xs (split_rows_of c.deref-3.result.now)) (sym (c.deref-2.ensures.value ∙ c.in_ok-names.ensures))
    (subst (λ (rows : List SplitRow). BindExactly (names (pattern_of c.args.pat.now)) rows) (sym (ap split_rows_of c.deref-3.ensures.value)) b)

pub column_of_many-returns : goal.column_of_many-returns
column_of_many-returns t c =
    let L : Language = language_in c.args.self.now.language.now in
    let p : Pattern = pattern_of c.args.pat.now in
    let ps : Items = items_of (map slot_of c.args.behind.now) in
    let x : Option (List ℕ) = option_copied c.args.length_name in
    let asks : List Ask = c.args.asks.now in
    let ts : Trees = trees_of c.args.ts.now in
    let asked : List Ask = c.in_ok-asked.asked.items in
    let cells : List SplitRow = split_rows_of c.in_ok-asked.cells.items in
    let nexts : List SplitRow = split_rows_of c.in_ok-nexts.nexts.items in
    let m = cells-terms c.args.ts.now c.in_ok-asked.cells.items c.in_ok-asked.ensures.cells in
    let j = length-map c.in_ok-asked.cells.items split_row_of in
    let n : length asks ≡ length cells + 1 = omega (arith, c.requires.places) in
    let u : IsAsked asks cells asked = subst (λ (qs : List Ask). IsAsked asks cells qs) (sym c.in_ok-asked.ensures.asked) (carried-asked Nothing asks cells n) in
    let behind : IsColumn L ps c.args.place ts asked nexts = rw c.deref.ensures.value at c.in_ok-nexts.ensures in
    IfOk-weaker c.turns_column.result _ _ (λ v k.
    let r : AreTurns c.deref-2.result.now x asks cells nexts (split_rows_of v.items) = rw c.deref-3.ensures.value at (rw c.deref-4.ensures.value at k) in
    let s : AreTurns (names p) x asks cells nexts (split_rows_of v.items) = subst (λ (xs : List (List ℕ)). AreTurns xs x asks cells nexts (split_rows_of v.items)) (c.deref-2.ensures.value ∙ c.in_ok-names.ensures) r in
    turns-column c.in_ok-asked.ensures.cells behind u s) c.turns_column.ensures

pub column-returns-then-nothing_asked : goal.column-returns-then-nothing_asked
column-returns-then-nothing_asked t c =
    let L : Language = language_in c.args.self.now.language.now in
    let ps : Items = items_of (map slot_of c.args.items.now) in
    let asks : List Ask = c.args.asks.now in
    let ts : Trees = trees_of c.args.ts.now in
    let a : list_all is_nothing asks ≡ true = sym c.nothing_asked.ensures ∙ c.if-nothing_asked.true in
    IfOk-weaker c.empty_rows.result _ _ (λ v k. subst (λ (rows : List SplitRow). IsColumn L ps c.args.place ts asks rows) (sym k) (nothing-column c.args.ts.now asks c.requires.places (all-nothing asks a))) c.empty_rows.ensures

pub column-returns-in_default : goal.column-returns-in_default
column-returns-in_default t c =
    let L : Language = language_in c.args.self.now.language.now in
    let asks : List Ask = c.args.asks.now in
    let ts : Trees = trees_of c.args.ts.now in
    let none : c.args.items.now ≡ [] = nil_from_length c.args.items.now c.in_default.ensures.cases in
    let e : items_of (map slot_of c.args.items.now) ≡ nil = ap (λ items. items_of (map slot_of items)) none in
    IfOk-weaker c.end_column.result _ _ (λ v k.
    let r : IsColumn L nil c.args.place ts asks (split_rows_of v.items) =
    subst (λ (rows : List SplitRow). IsColumn L nil c.args.place ts asks rows) (sym k.same) (end-column c.args.ts.now asks Nothing k.last c.requires.places k.has) in
    subst (λ (ps : Items). IsColumn L ps c.args.place ts asks (split_rows_of v.items)) (sym e) r) c.end_column.ensures

-- ---- the first row

pub row_of_items-column-requires : goal.row_of_items-column-requires
row_of_items-column-requires t c =
    let n : length c.deref.result.now ≡ suc (length (nothings (length c.args.ts.now))) = ap length (c.deref.ensures.value ∙ c.in_ok-asks.ensures) in
    let m = nothings-length (length c.args.ts.now) in
    (omega (arith, c.decreases), (omega arith, c.requires))

pub row_of_items-returns : goal.row_of_items-returns
row_of_items-returns t c =
    let rows = c.in_ok-rows.rows.items in
    let row = c.swap_remove.result in
    let f : split_row_of row ≡ get_or (split_rows_of rows) 0 (split_row_of row) = ap split_row_of c.swap_remove.ensures.value ∙ sym (get_or-map split_row_of rows 0 row) in
    column-head c.args.ask (nothings (length c.args.ts.now)) (split_row_of row) (c.deref.ensures.value ∙ c.in_ok-asks.ensures) f c.in_ok-rows.ensures

pub match_middle-returns-then-is_empty : goal.match_middle-returns-then-is_empty
match_middle-returns-then-is_empty t c =
    let n : length c.args.part.items.now ≡ 0 = grind (arith, common_steps) in
    let e : map slot_of c.args.part.items.now ≡ [] = ap (map slot_of) (nil_from_length c.args.part.items.now n) in
    rows_found (no_row_binds (part_of c.args.part) (rows_of c.new-rows.result.items) e (c.requires.none e) (ap rows_of c.new-rows.ensures.items))

pub match_middle-returns-then-is_empty-2 : goal.match_middle-returns-then-is_empty-2
match_middle-returns-then-is_empty-2 t c =
    let L : Language = language_in c.args.self.now.language.now in
    let n : length c.in_ok-row.row.matches.items ≡ 0 = grind (arith, common_steps) in
    let h = asked_matches L (part_of c.args.part) (split_row_of c.in_ok-row.row) false c.in_ok-row.ensures in
    none_found (λ b m. no_member (In_along (bindings_of c.in_ok-row.row.matches.items) [] (no_bindings c.in_ok-row.row.matches.items n) (h.complete b m)))

pub match_middle-returns : goal.match_middle-returns
match_middle-returns t c =
    let L : Language = language_in c.args.self.now.language.now in
    let part : Part = part_of c.args.part in
    let row : List Binding = bindings_of c.in_ok-row.row.matches.items in
    let h = asked_matches L part (split_row_of c.in_ok-row.row) false c.in_ok-row.ensures in
    let e : rows_of c.push.new.self.items ≡ row ∷ [] = grind (arith, common_steps) in
    rows_found (subst (λ (rows : List (List Binding)). BindAcross L part.slots part.terms rows) (sym e) (row_binds part row (bindings_are_maps c.in_ok-row.row.matches.items) h))

pub middle_rows-returns-then-is_empty-clause-searched : goal.middle_rows-returns-then-is_empty-clause-searched
middle_rows-returns-then-is_empty-clause-searched t c =
    let n : length c.args.part.items.now ≡ 0 = grind (arith, common_steps) in
    let e : map slot_of c.args.part.items.now ≡ [] = ap (map slot_of) (nil_from_length c.args.part.items.now n) in
    no_middle (part_of c.args.part) c.args.all_match.now (split_rows_of c.new-rows.result.items) e (c.requires.none e) (ap split_rows_of c.new-rows.ensures.items)

pub middle_rows-returns-then-is_empty-3-clause-searched : goal.middle_rows-returns-then-is_empty-3-clause-searched
middle_rows-returns-then-is_empty-3-clause-searched t c =
    let L : Language = language_in c.args.self.now.language.now in
    let part : Part = part_of c.args.part in
    let row : SplitRow = split_row_of c.in_ok-row.row in
    let a : c.if-all_match.ask ≡ asked_where c.args.all_match.now =
    elim c.if-all_match.branch [ middle_rows-then-all_match w ↦ w.ask-is ∙ sym (ap asked_where w.if-all_match.true) | middle_rows-else-all_match w ↦ w.ask-is ∙ sym (ap asked_where w.if-all_match.false) ] in
    let h : HasAsked (MatchItems L (items_of part.slots) (trees part.terms)) (PartSplits L part) (asked_where c.args.all_match.now) row =
    subst (λ k. HasAsked (MatchItems L (items_of part.slots) (trees part.terms)) (PartSplits L part) k row) a c.in_ok-row.ensures in
    let m : length c.in_ok-row.row.matches.items ≡ 0 = grind (arith, common_steps) in
    let n : length c.in_ok-row.row.spots.items ≡ 0 = grind (arith, common_steps) in
    middle_none L part row c.args.all_match.now c.args.all_match.now h (no_bindings c.in_ok-row.row.matches.items m) (ap spots_of (nil_from_length c.in_ok-row.row.spots.items n))

pub middle_rows-returns-clause-searched : goal.middle_rows-returns-clause-searched
middle_rows-returns-clause-searched t c =
    let L : Language = language_in c.args.self.now.language.now in
    let part : Part = part_of c.args.part in
    let row : SplitRow = split_row_of c.in_ok-row.row in
    let a : c.if-all_match.ask ≡ asked_where c.args.all_match.now =
    elim c.if-all_match.branch [ middle_rows-then-all_match w ↦ w.ask-is ∙ sym (ap asked_where w.if-all_match.true) | middle_rows-else-all_match w ↦ w.ask-is ∙ sym (ap asked_where w.if-all_match.false) ] in
    let h : HasAsked (MatchItems L (items_of part.slots) (trees part.terms)) (PartSplits L part) (asked_where c.args.all_match.now) row =
    subst (λ k. HasAsked (MatchItems L (items_of part.slots) (trees part.terms)) (PartSplits L part) k row) a c.in_ok-row.ensures in
    let w : IsMapRow row = record { matches = bindings_are_maps c.in_ok-row.row.matches.items; spots = spots_are_maps c.in_ok-row.row.spots.items } in
    let n : row.matches ≡ [] → row.spots ≡ [] → ⊥ = λ e.
    elim c.else-is_empty-2.branch [
      | middle_rows-else-is_empty-2-via-then-is_empty-2+else-is_empty-3 v ↦ some_spots c.in_ok-row.row.spots.items (λ k. absurd (grind (arith, common_steps)))
      | middle_rows-else-is_empty-2-via-else-is_empty-2 v ↦ λ f. some_bindings c.in_ok-row.row.matches.items (λ k. absurd (grind (arith, common_steps))) e
    ] in
    let empty : c.is_empty-3.result ≡ nat_eq (length c.in_ok-row.row.matches.items) 0 = c.is_empty-3.ensures ∙ ap (λ k. nat_eq k 0) c.in_ok-row.row.matches.ok.0 in
    let e : split_rows_of c.push.new.self.items ≡ row ∷ [] = grind (arith, common_steps) in
    subst (λ (rows : List SplitRow). IsSearched L part c.args.all_match.now (c.args.all_match.now && not c.is_empty-3.result) (Some rows)) (sym e)
    (middle_found L part row w c.args.all_match.now (c.args.all_match.now && not c.is_empty-3.result) h n
    (stays c.in_ok-row.row.matches.items c.args.all_match.now c.is_empty-3.result empty) (ends c.in_ok-row.row.matches.items c.args.all_match.now c.is_empty-3.result empty))

pub middle_rows-returns-clause-spots : goal.middle_rows-returns-clause-spots
middle_rows-returns-clause-spots t c f =
    let L : Language = language_in c.args.self.now.language.now in
    let part : Part = part_of c.args.part in
    let row : SplitRow = split_row_of c.in_ok-row.row in
    let a : c.if-all_match.ask ≡ asked_where c.args.all_match.now =
    elim c.if-all_match.branch [ middle_rows-then-all_match w ↦ w.ask-is ∙ sym (ap asked_where w.if-all_match.true) | middle_rows-else-all_match w ↦ w.ask-is ∙ sym (ap asked_where w.if-all_match.false) ] in
    let h : HasAsked (MatchItems L (items_of part.slots) (trees part.terms)) (PartSplits L part) (asked_where c.args.all_match.now) row =
    subst (λ k. HasAsked (MatchItems L (items_of part.slots) (trees part.terms)) (PartSplits L part) k row) a c.in_ok-row.ensures in
    let w : IsMapRow row = record { matches = bindings_are_maps c.in_ok-row.row.matches.items; spots = spots_are_maps c.in_ok-row.row.spots.items } in
    let empty : c.is_empty-3.result ≡ nat_eq (length c.in_ok-row.row.matches.items) 0 = c.is_empty-3.ensures ∙ ap (λ k. nat_eq k 0) c.in_ok-row.row.matches.ok.0 in
    let e : split_rows_of c.push.new.self.items ≡ row ∷ [] = grind (arith, common_steps) in
    subst (λ (rows : List SplitRow). HaveSpots L part rows) (sym e)
    (middle_spots L part row w c.args.all_match.now (c.args.all_match.now && not c.is_empty-3.result) h
    (stays c.in_ok-row.row.matches.items c.args.all_match.now c.is_empty-3.result empty) (ends c.in_ok-row.row.matches.items c.args.all_match.now c.is_empty-3.result empty) f)

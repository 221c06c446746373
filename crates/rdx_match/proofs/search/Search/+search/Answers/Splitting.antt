-- The answers on what a search splits.
use Rattle.std.proofs.Common.{arith, ◌≡◌, ℕ, suc, ◌+◌, nat_eq, true, false, ◌&&◌, List, [], ◌∷◌, ◌++◌, Some, None, length, drop, get_or, map, refl, ap, sym, ◌∙◌, subst, add-one, take, IfSome, IsTrue}
use Rattle.std.proofs.Math.ListN.{set, get_or-map}
use Rattle.std.proofs.lemmas.Grind.{common_steps}
use Rattle.std.proofs.lemmas.List.{nil_from_length, map-set, length-map}
use Rattle.std.proofs.lemmas.Result.{IfOk-weaker}
use Rattle.std.specs.Prelude.{not}
use Rattle.rdx_term.specs.AtPaths.{IsPlace, tree_at}
use Rattle.rdx_term.specs.Tree.{Tree}
use Rattle.rdx_term.specs.View.{tree_of}
use Rattle.rdx_lang.proofs.Collecting.{collects-next, collects-end, In_along, no_member}
use Rattle.rdx_lang.specs.Collecting.{Arises, Adds, HasExactly}
use Rattle.rdx_lang.specs.Members.{In, here}
use Rattle.rdx_lang.specs.Checked.{language_in}
use Rattle.rdx_lang.proofs.PatternEquations.{pattern_hole, pattern_nt, pattern_closed, pattern_seq}
use Rattle.rdx_lang.specs.Patterns.{Pattern, Items, Language, hole, nt, closed, seq}
use Rattle.rdx_lang.specs.PatternView.{Slot, pattern_of, patterns_of, slot_of, items_of}
use Rattle.rdx_lang.proofs.Rest.{rest_at, rest_none}
use Rattle.rdx_lang.specs.Shown.{bindings_of}
use Rattle.rdx_bind.specs.Namings.{naming_of}
use Rattle.rdx_bind.specs.Rows.{SplitRow, split_row_of, split_rows_of}
use Rattle.rdx_bind.specs.Searching.{item_pattern, IsRowOf, row_matches, row_splits, row_fails, found_row}
use Rattle.rdx_bind.specs.Spots.{Spot, SplitsAt, spot_of, spots_of, PlacedAt}
use Rattle.rdx_bind.specs.PartRows.{IsSearched, HaveSpots, HaveAll, found_split_rows}
use Rattle.rdx_bind.specs.Parts.{part_of}
use Rattle.rdx_bind.proofs.Gathering.{exactly_as, exactly_added, exactly_listed, adds_exactly}
use Rattle.rdx_bind.proofs.PartListings.{no_bindings, some_bindings, none_of_listing}
use Rattle.rdx_bind.proofs.SpotRows.{split_rows_are_maps}
use Rattle.rdx_bind.proofs.Prefixes.{taken_next, taken_rest, taken_whole, taken_length, next_items, rest_items, no_rows_found, rows_next_found, no_row_found, all_rows_found, not_both, stays, ends}
use Rattle.rdx_bind.proofs.ThreeParts.{found_fit, exactly_all_parts, exactly_one_part, first_fails, last_fails, middle_fails}
use Rattle.rdx_bind.proofs.FilledRows.{Filled, filled_none, filled-next, filled-length, filled-end}
use Rattle.rdx_bind.proofs.SplitRules.{SplitsOn, exactly_hole, exactly_any, exactly_nt, exactly_closed, exactly_named, exactly_in_hole, adds_splits}
use Rattle.rdx_match.proofs.search.Search.+search.Goals as goal
use Rattle.rdx_match.proofs.search.Search.+search.Goals.{middle_rows-then-all_match, middle_rows-else-all_match, middle_rows-else-is_empty-2-via-then-is_empty-2+else-is_empty-3, middle_rows-else-is_empty-2-via-else-is_empty-2}

pub split_in_hole-part_at-requires : goal.split_in_hole-part_at-requires
split_in_hole-part_at-requires t c =
    let L : Language = language_in c.args.self.now.language.now in
    let xs = c.deref-outer-items.result.now in
    let i : ℕ = c.loop-outer.outer-index in
    let s : Spot = spot_of c.outer-item.result in
    let e : spots_of (drop i xs) ≡ s ∷ spots_of (drop (i + 1) xs) = rest_at spot_of xs i c.outer-item.result c.loop-outer-test.true c.outer-item.is in
    let h : HasExactly (spots_of xs) (SplitsAt L (pattern_of c.args.left.now) (tree_of c.args.t.now)) =
    subst (λ ys. HasExactly (spots_of ys) (SplitsAt L (pattern_of c.args.left.now) (tree_of c.args.t.now))) (sym c.deref-outer-items.ensures.value) c.in_ok-spots.ensures in
    let a : In s (spots_of xs) = c.loop-outer.invariant.part s (In_along (s ∷ spots_of (drop (i + 1) xs)) (spots_of (drop i xs)) (sym e) (here refl)) in
    subst (IsPlace (tree_of c.args.t.now)) (sym (c.deref.ensures.value ∙ c.in_ok-path.ensures)) (h.sound s a).inside

pub split_in_hole-loop-outer-preserved : goal.split_in_hole-loop-outer-preserved
split_in_hole-loop-outer-preserved t c =
    let L : Language = language_in c.args.self.now.language.now in
    let nothing : List Spot = [] in
    let xs = c.deref-outer-items.result.now in
    let i : ℕ = c.loop-outer.outer-index in
    let s : Spot = spot_of c.outer-item.result in
    let u : Tree = tree_of c.part_at.result.now in
    let step = SplitsOn L (pattern_of c.args.right.now) (tree_of c.args.t.now) in
    let old : List Spot = spots_of c.loop-outer.gathered.spots.items in
    let new : List Spot = spots_of c.add_going_on.new.gathered.spots.items in
    let e : spots_of (drop i xs) ≡ s ∷ spots_of (drop (i + 1) xs) = rest_at spot_of xs i c.outer-item.result c.loop-outer-test.true c.outer-item.is in
    let f : u ≡ tree_at (tree_of c.args.t.now) s.path = c.part_at.ensures ∙ ap (tree_at (tree_of c.args.t.now)) (c.deref.ensures.value ∙ c.in_ok-path.ensures) in
    let a : Adds (step s) old new =
    adds_splits s u (spots_of c.in_ok-inners.inners.items) old new f c.in_ok-inners.ensures c.in_ok-add_going_on.ensures in
    collects-next step (spots_of xs) nothing s (spots_of (drop i xs)) (spots_of (drop (i + 1) xs)) old new e c.loop-outer.invariant a

pub split_in_hole-returns : goal.split_in_hole-returns
split_in_hole-returns t c =
    let L : Language = language_in c.args.self.now.language.now in
    let nothing : List Spot = [] in
    let xs = c.deref-outer-items.result.now in
    let i : ℕ = c.loop-outer.outer-index in
    let step = SplitsOn L (pattern_of c.args.right.now) (tree_of c.args.t.now) in
    let found : List Spot = spots_of c.loop-outer.gathered.spots.items in
    let h : HasExactly (spots_of xs) (SplitsAt L (pattern_of c.args.left.now) (tree_of c.args.t.now)) =
    subst (λ ys. HasExactly (spots_of ys) (SplitsAt L (pattern_of c.args.left.now) (tree_of c.args.t.now))) (sym c.deref-outer-items.ensures.value) c.in_ok-spots.ensures in
    let a : HasExactly found (Arises step (spots_of xs)) = exactly_added (Arises step (spots_of xs)) (collects-end step (spots_of xs) (spots_of (drop i xs)) nothing found (rest_none spot_of xs i (omega arith)) c.loop-outer.invariant) in
    IfOk-weaker c.distinct.result _ _ (λ v k. exactly_in_hole (spots_of xs) h (exactly_as (λ w j. a.sound w j) (λ w j. a.complete w j) k)) c.distinct.ensures

-- ---- several patterns, and patterns with a name, split

pub any_splits-loop-pat-preserved : goal.any_splits-loop-pat-preserved
any_splits-loop-pat-preserved t c =
    let L : Language = language_in c.args.self.now.language.now in
    let nothing : List Spot = [] in
    let xs = c.args.pats.now in
    let i : ℕ = c.loop-pat.pat-index in
    let p : Pattern = pattern_of c.pat-item.result in
    let step : Pattern → Spot → Type 0 = λ q s. SplitsAt L q (tree_of c.args.t.now) s in
    let old : List Spot = spots_of c.loop-pat.gathered.spots.items in
    let new : List Spot = spots_of c.add.new.self.spots.items in
    let e : patterns_of (drop i xs) ≡ p ∷ patterns_of (drop (i + 1) xs) = rest_at pattern_of xs i c.pat-item.result c.loop-pat-test.true c.pat-item.is in
    let a : Adds (step p) old new = adds_exactly (spots_of c.in_ok-spots.spots.items) old new c.in_ok-spots.ensures c.in_ok-add.ensures in
    collects-next step (patterns_of xs) nothing p (patterns_of (drop i xs)) (patterns_of (drop (i + 1) xs)) old new e c.loop-pat.invariant a

pub any_splits-returns : goal.any_splits-returns
any_splits-returns t c =
    let L : Language = language_in c.args.self.now.language.now in
    let nothing : List Spot = [] in
    let xs = c.args.pats.now in
    let i : ℕ = c.loop-pat.pat-index in
    let step : Pattern → Spot → Type 0 = λ q s. SplitsAt L q (tree_of c.args.t.now) s in
    let found : List Spot = spots_of c.loop-pat.gathered.spots.items in
    let a : HasExactly found (Arises step (patterns_of xs)) =
    exactly_added (Arises step (patterns_of xs)) (collects-end step (patterns_of xs) (patterns_of (drop i xs)) nothing found (rest_none pattern_of xs i (omega arith)) c.loop-pat.invariant) in
    IfOk-weaker c.nameless.result _ _ (λ v k. exactly_any (patterns_of xs) found a k) c.nameless.ensures

pub split_named-returns : goal.split_named-returns
split_named-returns t c = IfOk-weaker c.with_contexts.result _ _ (λ v k. exactly_named (naming_of c.args.name) (spots_of c.in_ok-spots.spots.items) c.in_ok-spots.ensures k) c.with_contexts.ensures

-- ---- items, of which one is split

pub row_of-returns-then-not-is_empty : goal.row_of-returns-then-not-is_empty
row_of-returns-then-not-is_empty t c =
    let n : length c.in_ok-matches.matches.items ≡ 0 → ⊥ = λ h. absurd (grind (arith, common_steps)) in
    row_matches (some_bindings c.in_ok-matches.matches.items n) (exactly_listed c.in_ok-matches.ensures) (ap spots_of c.new-spots.ensures.items)

pub row_of-returns-then-not-may_split : goal.row_of-returns-then-not-may_split
row_of-returns-then-not-may_split t c =
    let n : length c.in_ok-matches.matches.items ≡ 0 = grind (arith, common_steps) in
    row_fails (none_of_listing c.in_ok-matches.matches.items n c.in_ok-matches.ensures) (λ e. absurd (not_both c.args.may_split e c.if-not-may_split.true))

pub row_of-returns-then-is_empty : goal.row_of-returns-then-is_empty
row_of-returns-then-is_empty t c =
    let n : length c.in_ok-matches.matches.items ≡ 0 = grind (arith, common_steps) in
    let m : length c.in_ok-spots.spots.items ≡ 0 = grind (arith, common_steps) in
    row_fails (none_of_listing c.in_ok-matches.matches.items n c.in_ok-matches.ensures) (λ e s k. no_member (In_along (spots_of c.in_ok-spots.spots.items) [] (ap spots_of (nil_from_length c.in_ok-spots.spots.items m)) (c.in_ok-spots.ensures.complete s k)))

pub row_of-returns : goal.row_of-returns
row_of-returns t c =
    let L : Language = language_in c.args.self.now.language.now in
    let n : length c.in_ok-matches.matches.items ≡ 0 = grind (arith, common_steps) in
    let row : SplitRow = record { matches = bindings_of c.in_ok-matches.matches.items; spots = spots_of c.in_ok-spots.spots.items } in
    let r : IsRowOf L c.args.place (pattern_of c.args.pat.now) (tree_of c.args.t.now) true (Some row) =
    row_splits (no_bindings c.in_ok-matches.matches.items n) (none_of_listing c.in_ok-matches.matches.items n c.in_ok-matches.ensures) c.in_ok-spots.ensures in
    subst (λ b. IsRowOf L c.args.place (pattern_of c.args.pat.now) (tree_of c.args.t.now) b (Some row)) (sym c.if-not-may_split.false) r

pub rows_of-loop-i-init : goal.rows_of-loop-i-init
rows_of-loop-i-init t c = no_rows_found (split_rows_of c.new-rows.result.items) (ap split_rows_of c.new-rows.ensures.items)

pub rows_of-returns-in_default-clause-searched : goal.rows_of-returns-in_default-clause-searched
rows_of-returns-in_default-clause-searched t c =
    let L : Language = language_in c.args.self.now.language.now in
    let items = c.args.part.items.now in
    let terms = c.args.part.terms.now in
    let i : ℕ = c.loop-i.i in
    let item = c.index-part-i.result in
    let term = c.index-part-i-in-loop-i.result in
    let q : pattern_of c.pattern_in-pat.result.now ≡ item_pattern (slot_of item) = c.pattern_in-pat.ensures ∙ ap (λ x. item_pattern (slot_of x)) (sym c.index-part-i.is) in
    let a : length (map tree_of terms) ≡ length (map slot_of items) = c.requires.single.as_many in
    let b : length (map slot_of items) ≡ length items = length-map items slot_of in
    let d : length (map tree_of terms) ≡ length terms = length-map terms tree_of in
    let e = rest_items items i item (omega arith) c.index-part-i.is c.requires.single.single in
    let f = taken_rest tree_of terms i term (omega arith) c.index-part-i-in-loop-i.is in
    let r : IsRowOf L (c.args.part.place + i) (item_pattern (slot_of item)) (tree_of term) c.loop-i.all_match None =
    subst (λ o. IsRowOf L (c.args.part.place + i) (item_pattern (slot_of item)) (tree_of term) c.loop-i.all_match (found_row o)) c.in_default.is
    (subst (λ u. IsRowOf L (c.args.part.place + i) (item_pattern (slot_of item)) (tree_of u) c.loop-i.all_match (found_row c.in_ok-row.row)) (sym c.index-part-i-in-loop-i.is)
    (subst (λ p. IsRowOf L (c.args.part.place + i) p (tree_of (get_or terms i term)) c.loop-i.all_match (found_row c.in_ok-row.row)) q c.in_ok-row.ensures)) in
    no_row_found i (map slot_of (drop (i + 1) items)) (map tree_of (drop (i + 1) terms)) e f (taken_length tree_of terms i (omega arith)) c.loop-i.invariant r

pub rows_of-loop-i-preserved : goal.rows_of-loop-i-preserved
rows_of-loop-i-preserved t c =
    let L : Language = language_in c.args.self.now.language.now in
    let items = c.args.part.items.now in
    let terms = c.args.part.terms.now in
    let i : ℕ = c.loop-i.i in
    let item = c.index-part-i.result in
    let term = c.index-part-i-in-loop-i.result in
    let q : pattern_of c.pattern_in-pat.result.now ≡ item_pattern (slot_of item) = c.pattern_in-pat.ensures ∙ ap (λ x. item_pattern (slot_of x)) (sym c.index-part-i.is) in
    let a : length (map tree_of terms) ≡ length (map slot_of items) = c.requires.single.as_many in
    let b : length (map slot_of items) ≡ length items = length-map items slot_of in
    let d : length (map tree_of terms) ≡ length terms = length-map terms tree_of in
    let row : SplitRow = split_row_of c.in-Some.row in
    let e = next_items items i item (omega arith) c.index-part-i.is c.requires.single.single in
    let f = taken_next tree_of terms i term (omega arith) c.index-part-i-in-loop-i.is in
    let g : split_rows_of c.push.new.self.items ≡ split_rows_of c.loop-i.rows.items ++ row ∷ [] = grind (arith, common_steps) in
    let r : IsRowOf L (c.args.part.place + i) (item_pattern (slot_of item)) (tree_of term) c.loop-i.all_match (Some row) =
    subst (λ o. IsRowOf L (c.args.part.place + i) (item_pattern (slot_of item)) (tree_of term) c.loop-i.all_match (found_row o)) c.in-Some.is
    (subst (λ u. IsRowOf L (c.args.part.place + i) (item_pattern (slot_of item)) (tree_of u) c.loop-i.all_match (found_row c.in_ok-row.row)) (sym c.index-part-i-in-loop-i.is)
    (subst (λ p. IsRowOf L (c.args.part.place + i) p (tree_of (get_or terms i term)) c.loop-i.all_match (found_row c.in_ok-row.row)) q c.in_ok-row.ensures)) in
    let empty : c.is_empty.result ≡ nat_eq (length c.in-Some.row.matches.items) 0 = c.is_empty.ensures ∙ ap (λ n. nat_eq n 0) c.in-Some.row.matches.ok.0 in
    rows_next_found i (c.loop-i.all_match && not c.is_empty.result) row e f g (taken_length tree_of terms i (omega arith)) (split_rows_are_maps c.loop-i.rows.items) c.loop-i.invariant r
    (stays c.in-Some.row.matches.items c.loop-i.all_match c.is_empty.result empty) (ends c.in-Some.row.matches.items c.loop-i.all_match c.is_empty.result empty)

pub rows_of-returns-clause-searched : goal.rows_of-returns-clause-searched
rows_of-returns-clause-searched t c =
    let L : Language = language_in c.args.self.now.language.now in
    let items = c.args.part.items.now in
    let terms = c.args.part.terms.now in
    let a : length (map tree_of terms) ≡ length (map slot_of items) = c.requires.single.as_many in
    let b : length (map slot_of items) ≡ length items = length-map items slot_of in
    let d : length (map tree_of terms) ≡ length terms = length-map terms tree_of in
    let e : map slot_of (take c.loop-i.i items) ≡ map slot_of items = taken_whole slot_of items c.loop-i.i (omega arith) in
    let f : map tree_of (take c.loop-i.i terms) ≡ map tree_of terms = taken_whole tree_of terms c.loop-i.i (omega arith) in
    let u = all_rows_found e f c.loop-i.invariant in
    u.1

pub rows_of-returns-clause-rows : goal.rows_of-returns-clause-rows
rows_of-returns-clause-rows t c =
    let L : Language = language_in c.args.self.now.language.now in
    let items = c.args.part.items.now in
    let terms = c.args.part.terms.now in
    let a : length (map tree_of terms) ≡ length (map slot_of items) = c.requires.single.as_many in
    let b : length (map slot_of items) ≡ length items = length-map items slot_of in
    let d : length (map tree_of terms) ≡ length terms = length-map terms tree_of in
    let e : map slot_of (take c.loop-i.i items) ≡ map slot_of items = taken_whole slot_of items c.loop-i.i (omega arith) in
    let f : map tree_of (take c.loop-i.i terms) ≡ map tree_of terms = taken_whole tree_of terms c.loop-i.i (omega arith) in
    let u = all_rows_found e f c.loop-i.invariant in
    u.0

pub add_spots-loop-i-init : goal.add_spots-loop-i-init
add_spots-loop-i-init t c = filled_none c.requires.rows

pub add_spots-index_mut-requires : goal.add_spots-index_mut-requires
add_spots-index_mut-requires t c =
    let n = filled-length c.loop-i.invariant in
    let a = length-map c.args.part.items.now slot_of in
    let b = length-map c.loop-i.rows.items split_row_of in
    omega arith

pub add_spots-loop-i-preserved : goal.add_spots-loop-i-preserved
add_spots-loop-i-preserved t c =
    let L : Language = language_in c.args.self.now.language.now in
    let items = c.args.part.items.now in
    let terms = c.args.part.terms.now in
    let i : ℕ = c.loop-i.i in
    let item = c.index-part-i.result in
    let term = c.index-part-i-in-loop-i.result in
    let q : pattern_of c.pattern_in-pat.result.now ≡ item_pattern (slot_of item) = c.pattern_in-pat.ensures ∙ ap (λ x. item_pattern (slot_of x)) (sym c.index-part-i.is) in
    let old : SplitRow = split_row_of c.index_mut.result.now in
    let rows : List SplitRow = split_rows_of c.loop-i.rows.items in
    let row : SplitRow = record { matches = old.matches; spots = spots_of c.in_ok-spots.spots.items } in
    let h : HasExactly row.spots (PlacedAt L (c.args.part.place + i) (item_pattern (slot_of item)) (tree_of term)) =
    subst (λ u. HasExactly row.spots (PlacedAt L (c.args.part.place + i) (item_pattern (slot_of item)) (tree_of u))) (sym c.index-part-i-in-loop-i.is)
    (subst (λ p. HasExactly row.spots (PlacedAt L (c.args.part.place + i) p (tree_of (get_or terms i term)))) q c.in_ok-spots.ensures) in
    let e : slot_of item ≡ get_or (map slot_of items) i (slot_of item) = ap slot_of c.index-part-i.is ∙ sym (get_or-map slot_of items i item) in
    let f : tree_of term ≡ get_or (map tree_of terms) i (tree_of term) = ap tree_of c.index-part-i-in-loop-i.is ∙ sym (get_or-map tree_of terms i term) in
    let o : old ≡ get_or rows i old = ap split_row_of c.index_mut.ensures.value ∙ sym (get_or-map split_row_of c.loop-i.rows.items i c.index_mut.result.now) in
    let n = length-map items slot_of in
    let filled : Filled L (suc i) c.args.part.place (map slot_of items) (map tree_of terms) (set rows i row) =
    filled-next (map slot_of items) (map tree_of terms) i c.args.part.place (slot_of item) (tree_of term) rows row old (omega arith) e f o refl h c.loop-i.invariant in
    subst (λ (x : List SplitRow). Filled L (i + 1) c.args.part.place (map slot_of items) (map tree_of terms) x) (sym (map-set split_row_of c.loop-i.rows.items i (record { matches = c.index_mut.result.now.matches; spots = c.in_ok-spots.spots })))
    (subst (λ (k : ℕ). Filled L k c.args.part.place (map slot_of items) (map tree_of terms) (set rows i row)) (sym (add-one i)) filled)

pub add_spots-returns : goal.add_spots-returns
add_spots-returns t c =
    let L : Language = language_in c.args.self.now.language.now in
    let slots : List Slot = map slot_of c.args.part.items.now in
    let terms : List Tree = map tree_of c.args.part.terms.now in
    let rows : List SplitRow = split_rows_of c.loop-i.rows.items in
    let a = length-map c.args.part.items.now slot_of in
    let e : c.loop-i.i ≡ length slots = omega arith in
    filled-end slots (subst (λ (n : ℕ). Filled L n c.args.part.place slots terms rows) e c.loop-i.invariant)

pub split_list-returns-in_default-2 : goal.split_list-returns-in_default-2
split_list-returns-in_default-2 t c =
    let L : Language = language_in c.args.self.now.language.now in
    let s : IsSearched L (part_of c.in-Some.parts.before) true c.rows_of.new.all_match None =
    subst (λ o. IsSearched L (part_of c.in-Some.parts.before) true c.rows_of.new.all_match (found_split_rows o)) c.in_default-2.is c.in_ok-before.ensures.searched in
    first_fails L c.in-Some.ensures.some s (ap spots_of c.new-in_default-2.ensures.items)

pub split_list-returns-in_default-3 : goal.split_list-returns-in_default-3
split_list-returns-in_default-3 t c =
    let L : Language = language_in c.args.self.now.language.now in
    let s : IsSearched L (part_of c.in-Some.parts.before) true c.rows_of.new.all_match (Some (split_rows_of c.in-Some-2.before.items)) =
    subst (λ o. IsSearched L (part_of c.in-Some.parts.before) true c.rows_of.new.all_match (found_split_rows o)) c.in-Some-2.is c.in_ok-before.ensures.searched in
    let o : IsSearched L (part_of c.in-Some.parts.behind) c.rows_of.new.all_match c.rows_of-2.new.all_match None =
    subst (λ o. IsSearched L (part_of c.in-Some.parts.behind) c.rows_of.new.all_match c.rows_of-2.new.all_match (found_split_rows o)) c.in_default-3.is c.in_ok-behind.ensures.searched in
    last_fails L c.in-Some.ensures.some s o (ap spots_of c.new-in_default-3.ensures.items)

pub split_list-returns-in_default-4 : goal.split_list-returns-in_default-4
split_list-returns-in_default-4 t c =
    let L : Language = language_in c.args.self.now.language.now in
    let s : IsSearched L (part_of c.in-Some.parts.before) true c.rows_of.new.all_match (Some (split_rows_of c.in-Some-2.before.items)) =
    subst (λ o. IsSearched L (part_of c.in-Some.parts.before) true c.rows_of.new.all_match (found_split_rows o)) c.in-Some-2.is c.in_ok-before.ensures.searched in
    let o : IsSearched L (part_of c.in-Some.parts.behind) c.rows_of.new.all_match c.rows_of-2.new.all_match (Some (split_rows_of c.in-Some-3.behind.items)) =
    subst (λ o. IsSearched L (part_of c.in-Some.parts.behind) c.rows_of.new.all_match c.rows_of-2.new.all_match (found_split_rows o)) c.in-Some-3.is c.in_ok-behind.ensures.searched in
    let k : IsSearched L (part_of c.in-Some.parts.middle) c.rows_of-2.new.all_match c.middle_rows.new.all_match None =
    subst (λ o. IsSearched L (part_of c.in-Some.parts.middle) c.rows_of-2.new.all_match c.middle_rows.new.all_match (found_split_rows o)) c.in_default-4.is c.in_ok-middle.ensures.searched in
    middle_fails L c.in-Some.ensures.some s o k (ap spots_of c.new-in_default-4.ensures.items)

pub split_list-returns-then-not-all_match : goal.split_list-returns-then-not-all_match
split_list-returns-then-not-all_match t c =
    let L : Language = language_in c.args.self.now.language.now in
    let s : IsSearched L (part_of c.in-Some.parts.before) true c.rows_of.new.all_match (Some (split_rows_of c.in-Some-2.before.items)) =
    subst (λ o. IsSearched L (part_of c.in-Some.parts.before) true c.rows_of.new.all_match (found_split_rows o)) c.in-Some-2.is c.in_ok-before.ensures.searched in
    let o : IsSearched L (part_of c.in-Some.parts.behind) c.rows_of.new.all_match c.rows_of-2.new.all_match (Some (split_rows_of c.in-Some-3.behind.items)) =
    subst (λ o. IsSearched L (part_of c.in-Some.parts.behind) c.rows_of.new.all_match c.rows_of-2.new.all_match (found_split_rows o)) c.in-Some-3.is c.in_ok-behind.ensures.searched in
    let k : IsSearched L (part_of c.in-Some.parts.middle) c.rows_of-2.new.all_match c.middle_rows.new.all_match (Some (split_rows_of c.in-Some-4.middle.items)) =
    subst (λ o. IsSearched L (part_of c.in-Some.parts.middle) c.rows_of-2.new.all_match c.middle_rows.new.all_match (found_split_rows o)) c.in-Some-4.is c.in_ok-middle.ensures.searched in
    let none : IsSearched L (part_of c.in-Some.parts.middle) c.rows_of-2.new.all_match false (Some (split_rows_of c.in-Some-4.middle.items)) =
    subst (λ b. IsSearched L (part_of c.in-Some.parts.middle) c.rows_of-2.new.all_match b (Some (split_rows_of c.in-Some-4.middle.items))) c.if-not-all_match.true k in
    IfOk-weaker c.spots_of_parts.result _ _ (λ v h. exactly_one_part L c.in-Some.ensures.some (split_rows_of c.in-Some-2.before.items) (split_rows_of c.in-Some-4.middle.items)
    (split_rows_of c.in-Some-3.behind.items) (split_rows_are_maps c.in-Some-2.before.items) (split_rows_are_maps c.in-Some-4.middle.items) s o none h) c.spots_of_parts.ensures

pub split_list-returns : goal.split_list-returns
split_list-returns t c =
    let L : Language = language_in c.args.self.now.language.now in
    let k : IsSearched L (part_of c.in-Some.parts.middle) c.rows_of-2.new.all_match c.middle_rows.new.all_match (Some (split_rows_of c.in-Some-4.middle.items)) =
    subst (λ o. IsSearched L (part_of c.in-Some.parts.middle) c.rows_of-2.new.all_match c.middle_rows.new.all_match (found_split_rows o)) c.in-Some-4.is c.in_ok-middle.ensures.searched in
    let has : IsTrue c.middle_rows.new.all_match → HaveSpots L (part_of c.in-Some.parts.middle) (split_rows_of c.in-Some-4.middle.items) =
    subst (λ o. IfSome o (λ rows. IsTrue c.middle_rows.new.all_match → HaveSpots L (part_of c.in-Some.parts.middle) (split_rows_of rows.items))) c.in-Some-4.is c.in_ok-middle.ensures.spots in
    let middle : HaveAll L (part_of c.in-Some.parts.middle) (split_rows_of c.in-Some-4.middle.items) = record { fit = found_fit k; spots = has c.if-not-all_match.false } in
    IfOk-weaker c.spots_of_parts-2.result _ _ (λ v h. exactly_all_parts L c.in-Some.ensures.some (split_rows_of c.add_spots.new.rows.items) (split_rows_of c.in-Some-4.middle.items)
    (split_rows_of c.add_spots-2.new.rows.items) (split_rows_are_maps c.add_spots.new.rows.items) (split_rows_are_maps c.in-Some-4.middle.items)
    c.in_ok-add_spots.ensures middle c.in_ok-add_spots-2.ensures h) c.spots_of_parts-2.ensures

-- ---- each form, split

pub splits-returns-in-Hole : goal.splits-returns-in-Hole
splits-returns-in-Hole t c =
    let L : Language = language_in c.args.self.now.language.now in
    let e : pattern_of c.args.pat.now ≡ hole = ap pattern_of c.in-Hole.is ∙ pattern_hole in
    IfOk-weaker c.whole.result _ _ (λ v f. subst (λ p. HasExactly (spots_of v.items) (SplitsAt L p (tree_of c.args.t.now))) (sym e) (exactly_hole f)) c.whole.ensures

pub splits-returns-in-Nt : goal.splits-returns-in-Nt
splits-returns-in-Nt t c =
    let L : Language = language_in c.args.self.now.language.now in
    let e : pattern_of c.args.pat.now ≡ nt c.in-Nt.name = ap pattern_of c.in-Nt.is ∙ pattern_nt c.in-Nt.name in
    IfOk-weaker c.any_splits.result _ _ (λ v h. subst (λ p. HasExactly (spots_of v.items) (SplitsAt L p (tree_of c.args.t.now))) (sym e)
    (exactly_nt (patterns_of c.alternatives.result.now) c.alternatives.ensures h)) c.any_splits.ensures

pub splits-returns-in-Closed : goal.splits-returns-in-Closed
splits-returns-in-Closed t c =
    let L : Language = language_in c.args.self.now.language.now in
    let q : Pattern = pattern_of c.in-Closed.part.value in
    let e : pattern_of c.args.pat.now ≡ closed q = ap pattern_of c.in-Closed.is ∙ pattern_closed c.in-Closed.part in
    let ps : patterns_of c.from_ref.result.now ≡ q ∷ [] = ap patterns_of c.from_ref.ensures.value ∙ ap (λ p. pattern_of p ∷ []) c.deref-in-Closed.ensures in
    IfOk-weaker c.any_splits-in-Closed.result _ _ (λ v h. subst (λ p. HasExactly (spots_of v.items) (SplitsAt L p (tree_of c.args.t.now))) (sym e)
    (exactly_closed (patterns_of c.from_ref.result.now) ps h)) c.any_splits-in-Closed.ensures

pub splits-returns-in-Seq : goal.splits-returns-in-Seq
splits-returns-in-Seq t c =
    let L : Language = language_in c.args.self.now.language.now in
    let ps : Items = items_of (map slot_of c.in-Seq.items.items) in
    let e : pattern_of c.args.pat.now ≡ seq ps = ap pattern_of c.in-Seq.is ∙ pattern_seq c.in-Seq.items in
    IfOk-weaker c.split_list.result _ _ (λ v h.
    let k : HasExactly (spots_of v.items) (SplitsAt L (seq ps) (tree_of c.args.t.now)) = rw c.deref-in-Seq.ensures.value at h in
    subst (λ p. HasExactly (spots_of v.items) (SplitsAt L p (tree_of c.args.t.now))) (sym e) k) c.split_list.ensures

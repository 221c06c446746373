-- The answers on what a search matches.
use Rattle.std.proofs.Common.{arith, ◌≡◌, ℕ, ◌+◌, List, [], ◌∷◌, ◌++◌, Some, None, length, drop, get_or, map, refl, ap, sym, ◌∙◌, subst, take}
use Rattle.std.proofs.lemmas.Grind.{common_steps}
use Rattle.std.proofs.lemmas.List.{length-map}
use Rattle.std.proofs.lemmas.Result.{IfOk-weaker}
use Rattle.rdx_term.specs.AtPaths.{IsPlace, tree_at}
use Rattle.rdx_term.specs.Tree.{Tree}
use Rattle.rdx_term.specs.View.{tree_of}
use Rattle.rdx_lang.proofs.Collecting.{collects-next, collects-end, listing_of_all, In_along}
use Rattle.rdx_lang.specs.Bindings.{Binding}
use Rattle.rdx_lang.specs.Collecting.{Arises, Adds, HasExactly}
use Rattle.rdx_lang.specs.Members.{In, here}
use Rattle.rdx_lang.specs.Checked.{language_in}
use Rattle.rdx_lang.specs.Listing.{IsListing, AllMatches}
use Rattle.rdx_lang.specs.Order.{binding_cmp}
use Rattle.rdx_lang.proofs.PatternEquations.{pattern_wild, pattern_kind, pattern_except, pattern_prefix, pattern_hole, pattern_lit, pattern_nt, pattern_named, pattern_differ, pattern_hide_hole, pattern_closed, pattern_seq}
use Rattle.rdx_lang.specs.Patterns.{Pattern, Items, Language, wild, of_kind, except, prefix, hole, lit, nt, named, differ, hide_hole, closed, seq}
use Rattle.rdx_lang.specs.PatternView.{Slot, just, pattern_of, patterns_of, slot_of, items_of}
use Rattle.rdx_lang.proofs.Rest.{rest_at, rest_none}
use Rattle.rdx_lang.specs.Rules.{Match}
use Rattle.rdx_lang.specs.Shown.{bindings_of}
use Rattle.rdx_bind.specs.Atoms.{is_other_symbol}
use Rattle.rdx_bind.specs.Combining.{rows_of}
use Rattle.rdx_bind.specs.Namings.{naming_of}
use Rattle.rdx_bind.specs.Searching.{item_pattern}
use Rattle.rdx_bind.specs.Spots.{Spot, SplitsAt, spot_of, spots_of}
use Rattle.rdx_bind.specs.Parts.{Part, part_of, Unmatched, BindAcross, FoundRows, rows_found, none_found, found_rows}
use Rattle.rdx_bind.proofs.AnyOf.{untried_first, untried_next, untried_none}
use Rattle.rdx_bind.proofs.AtomListings.{listing_wild, listing_kind, listing_except, listing_prefix, listing_hole, listing_lit}
use Rattle.rdx_bind.proofs.Gathering.{exactly_listed}
use Rattle.rdx_bind.proofs.PartListings.{listing_nt, listing_named, listing_hide_hole, listing_closed, some_of_listing, none_of_listing}
use Rattle.rdx_bind.proofs.PartRows.{item_unmatched}
use Rattle.rdx_bind.proofs.AcrossRows.{rows_are_maps}
use Rattle.rdx_bind.proofs.Prefixes.{taken_next, taken_rest, taken_whole, next_items, rest_items, none_bind, items_next}
use Rattle.rdx_bind.proofs.ThreeParts.{found_bind, not_found, listing_parts_of, first_unmatched, middle_unmatched, last_unmatched}
use Rattle.rdx_bind.proofs.SplitRules.{MatchesOn, listing_in_hole, adds_matches}
use Rattle.rdx_match.proofs.search.Search.+search.Goals as goal
use Rattle.rdx_match.proofs.search.Search.+search.Goals.{middle_rows-then-all_match, middle_rows-else-all_match, middle_rows-else-is_empty-2-via-then-is_empty-2+else-is_empty-3, middle_rows-else-is_empty-2-via-else-is_empty-2}

pub any_matches-returns-then-not-is_empty : goal.any_matches-returns-then-not-is_empty
any_matches-returns-then-not-is_empty t c =
    let L : Language = language_in c.args.self.now.language.now in
    let xs = c.args.pats.now in
    let i : ℕ = c.loop-pat.pat-index in
    let p = c.pat-item.result in
    let e : patterns_of (drop i xs) ≡ pattern_of p ∷ patterns_of (drop (i + 1) xs) = rest_at pattern_of xs i p c.loop-pat-test.true c.pat-item.is in
    let a : In (pattern_of p) (patterns_of xs) = untried_first L (patterns_of xs) (tree_of c.args.t.now) (pattern_of p) (patterns_of (drop (i + 1) xs)) (patterns_of (drop i xs)) e c.loop-pat.invariant in
    let n : length c.in_ok-found.found.items ≡ 0 → ⊥ = λ h. absurd (grind (arith, common_steps)) in
    let b : (b : Binding) × Match L (pattern_of p) (tree_of c.args.t.now) b = some_of_listing c.in_ok-found.found.items n c.in_ok-found.ensures in
    (λ _. record { pattern = pattern_of p; among = a; binding = b.0; matched = b.1 }, λ _. refl)

pub any_matches-loop-pat-preserved : goal.any_matches-loop-pat-preserved
any_matches-loop-pat-preserved t c =
    let L : Language = language_in c.args.self.now.language.now in
    let xs = c.args.pats.now in
    let i : ℕ = c.loop-pat.pat-index in
    let p = c.pat-item.result in
    let e : patterns_of (drop i xs) ≡ pattern_of p ∷ patterns_of (drop (i + 1) xs) = rest_at pattern_of xs i p c.loop-pat-test.true c.pat-item.is in
    let n : length c.in_ok-found.found.items ≡ 0 = grind (arith, common_steps) in
    untried_next L (patterns_of xs) (tree_of c.args.t.now) (pattern_of p) (patterns_of (drop (i + 1) xs)) (patterns_of (drop i xs)) e
    (none_of_listing c.in_ok-found.found.items n c.in_ok-found.ensures) c.loop-pat.invariant

pub any_matches-returns : goal.any_matches-returns
any_matches-returns t c =
    let L : Language = language_in c.args.self.now.language.now in
    let xs = c.args.pats.now in
    let i : ℕ = c.loop-pat.pat-index in (
      λ h. absurd cc,
      λ a. absurd (untried_none L (patterns_of xs) (tree_of c.args.t.now) (patterns_of (drop i xs)) (rest_none pattern_of xs i c.loop-pat-test.false) c.loop-pat.invariant
          a.pattern a.binding a.among a.matched),
    )

-- ---- the items of a list, matched

pub match_items-loop-i-init : goal.match_items-loop-i-init
match_items-loop-i-init t c = (record { single = refl; as_many = refl }, none_bind (rows_of c.new-rows.result.items) (ap rows_of c.new-rows.ensures.items))

pub match_items-returns-then-is_empty : goal.match_items-returns-then-is_empty
match_items-returns-then-is_empty t c =
    let L : Language = language_in c.args.self.now.language.now in
    let items = c.args.part.items.now in
    let terms = c.args.part.terms.now in
    let i : ℕ = c.loop-i.i in
    let item = c.index-part-i.result in
    let term = c.index-part-i-in-loop-i.result in
    let q : pattern_of c.pattern_in.result.now ≡ item_pattern (slot_of item) = c.pattern_in.ensures ∙ ap (λ x. item_pattern (slot_of x)) (sym c.index-part-i.is) in
    let a : length (map tree_of terms) ≡ length (map slot_of items) = c.requires.as_many in
    let b : length (map slot_of items) ≡ length items = length-map items slot_of in
    let d : length (map tree_of terms) ≡ length terms = length-map terms tree_of in
    let e = rest_items items i item (omega arith) c.index-part-i.is c.requires.single in
    let f = taken_rest tree_of terms i term (omega arith) c.index-part-i-in-loop-i.is in
    let n : length c.in_ok-row.row.items ≡ 0 = grind (arith, common_steps) in
    let none : (b : Binding) → Match L (item_pattern (slot_of item)) (tree_of term) b → ⊥ =
    subst (λ u. (b : Binding) → Match L (item_pattern (slot_of item)) (tree_of u) b → ⊥) (sym c.index-part-i-in-loop-i.is)
    (subst (λ p. (b : Binding) → Match L p (tree_of (get_or terms i term)) b → ⊥) q (none_of_listing c.in_ok-row.row.items n c.in_ok-row.ensures)) in
    let u : Unmatched L (map slot_of (take i items) ++ just (item_pattern (slot_of item)) ∷ map slot_of (drop (i + 1) items)) (map tree_of (take i terms) ++ tree_of term ∷ map tree_of (drop (i + 1) terms)) =
    item_unmatched (map slot_of (take i items)) (map slot_of (drop (i + 1) items)) (map tree_of (take i terms)) (map tree_of (drop (i + 1) terms)) c.loop-i.invariant.0 none in
    none_found (subst (λ (s : List Slot). Unmatched L s (map tree_of terms)) (sym e)
    (subst (λ (ts : List Tree). Unmatched L (map slot_of (take i items) ++ just (item_pattern (slot_of item)) ∷ map slot_of (drop (i + 1) items)) ts) (sym f) u))

pub match_items-loop-i-preserved : goal.match_items-loop-i-preserved
match_items-loop-i-preserved t c =
    let L : Language = language_in c.args.self.now.language.now in
    let items = c.args.part.items.now in
    let terms = c.args.part.terms.now in
    let i : ℕ = c.loop-i.i in
    let item = c.index-part-i.result in
    let term = c.index-part-i-in-loop-i.result in
    let q : pattern_of c.pattern_in.result.now ≡ item_pattern (slot_of item) = c.pattern_in.ensures ∙ ap (λ x. item_pattern (slot_of x)) (sym c.index-part-i.is) in
    let a : length (map tree_of terms) ≡ length (map slot_of items) = c.requires.as_many in
    let b : length (map slot_of items) ≡ length items = length-map items slot_of in
    let d : length (map tree_of terms) ≡ length terms = length-map terms tree_of in
    let row : List Binding = bindings_of c.in_ok-row.row.items in
    let e = next_items items i item (omega arith) c.index-part-i.is c.requires.single in
    let f = taken_next tree_of terms i term (omega arith) c.index-part-i-in-loop-i.is in
    let g : rows_of c.push.new.self.items ≡ rows_of c.loop-i.rows.items ++ row ∷ [] = grind (arith, common_steps) in
    let m : AllMatches L (item_pattern (slot_of item)) (tree_of term) row =
    subst (λ u. AllMatches L (item_pattern (slot_of item)) (tree_of u) row) (sym c.index-part-i-in-loop-i.is) (subst (λ p. AllMatches L p (tree_of (get_or terms i term)) row) q c.in_ok-row.ensures) in
    items_next row e f g (rows_are_maps c.loop-i.rows.items) c.loop-i.invariant (exactly_listed m)

pub match_items-returns : goal.match_items-returns
match_items-returns t c =
    let L : Language = language_in c.args.self.now.language.now in
    let items = c.args.part.items.now in
    let terms = c.args.part.terms.now in
    let a : length (map tree_of terms) ≡ length (map slot_of items) = c.requires.as_many in
    let b : length (map slot_of items) ≡ length items = length-map items slot_of in
    let d : length (map tree_of terms) ≡ length terms = length-map terms tree_of in
    let e : map slot_of (take c.loop-i.i items) ≡ map slot_of items = taken_whole slot_of items c.loop-i.i (omega arith) in
    let f : map tree_of (take c.loop-i.i terms) ≡ map tree_of terms = taken_whole tree_of terms c.loop-i.i (omega arith) in
    rows_found (subst (λ (s : List Slot). BindAcross L s (map tree_of terms) (rows_of c.loop-i.rows.items)) e
    (subst (λ (ts : List Tree). BindAcross L (map slot_of (take c.loop-i.i items)) ts (rows_of c.loop-i.rows.items)) f c.loop-i.invariant.1))

pub match_list-returns-in_default-2 : goal.match_list-returns-in_default-2
match_list-returns-in_default-2 t c =
    let L : Language = language_in c.args.self.now.language.now in
    let part : Part = part_of c.in-Some.parts.before in
    let f : FoundRows L part.slots part.terms None = subst (λ o. FoundRows L part.slots part.terms (found_rows o)) c.in_default-2.is c.in_ok-before.ensures in
    first_unmatched L c.in-Some.ensures.some (not_found f) (ap bindings_of c.new-in_default-2.ensures.items)

pub match_list-returns-in_default-3 : goal.match_list-returns-in_default-3
match_list-returns-in_default-3 t c =
    let L : Language = language_in c.args.self.now.language.now in
    let part : Part = part_of c.in-Some.parts.behind in
    let f : FoundRows L part.slots part.terms None = subst (λ o. FoundRows L part.slots part.terms (found_rows o)) c.in_default-3.is c.in_ok-behind.ensures in
    last_unmatched L c.in-Some.ensures.some (not_found f) (ap bindings_of c.new-in_default-3.ensures.items)

pub match_list-returns-in_default-4 : goal.match_list-returns-in_default-4
match_list-returns-in_default-4 t c =
    let L : Language = language_in c.args.self.now.language.now in
    let part : Part = part_of c.in-Some.parts.middle in
    let f : FoundRows L part.slots part.terms None = subst (λ o. FoundRows L part.slots part.terms (found_rows o)) c.in_default-4.is c.in_ok-middle.ensures in
    middle_unmatched L c.in-Some.ensures.some (not_found f) (ap bindings_of c.new-in_default-4.ensures.items)

pub match_list-returns : goal.match_list-returns
match_list-returns t c =
    let L : Language = language_in c.args.self.now.language.now in
    let x : Part = part_of c.in-Some.parts.before in
    let y : Part = part_of c.in-Some.parts.middle in
    let z : Part = part_of c.in-Some.parts.behind in
    let firsts : List (List Binding) = rows_of c.in-Some-2.before.items in
    let middles : List (List Binding) = rows_of c.in-Some-4.middle.items in
    let lasts : List (List Binding) = rows_of c.in-Some-3.behind.items in
    let f : FoundRows L x.slots x.terms (Some firsts) = subst (λ o. FoundRows L x.slots x.terms (found_rows o)) c.in-Some-2.is c.in_ok-before.ensures in
    let g : FoundRows L y.slots y.terms (Some middles) = subst (λ o. FoundRows L y.slots y.terms (found_rows o)) c.in-Some-4.is c.in_ok-middle.ensures in
    let h : FoundRows L z.slots z.terms (Some lasts) = subst (λ o. FoundRows L z.slots z.terms (found_rows o)) c.in-Some-3.is c.in_ok-behind.ensures in
    IfOk-weaker c.joins_of_parts.result _ _ (λ v l. listing_parts_of L c.in-Some.ensures.some firsts middles lasts (rows_are_maps c.in-Some-2.before.items) (rows_are_maps c.in-Some-4.middle.items)
    (found_bind f) (found_bind g) (found_bind h) l) c.joins_of_parts.ensures

pub matches-returns-in-Wild : goal.matches-returns-in-Wild
matches-returns-in-Wild t c =
    let L : Language = language_in c.args.self.now.language.now in
    let e : pattern_of c.args.pat.now ≡ wild = ap pattern_of c.in-Wild.is ∙ pattern_wild in
    IfOk-weaker c.empty_where.result _ _ (λ v f. subst (λ p. AllMatches L p (tree_of c.args.t.now) (bindings_of v.items)) (sym e) (listing_wild f)) c.empty_where.ensures

pub matches-returns-in-Except : goal.matches-returns-in-Except
matches-returns-in-Except t c =
    let L : Language = language_in c.args.self.now.language.now in
    let e : pattern_of c.args.pat.now ≡ except c.in-Except.names.items = ap pattern_of c.in-Except.is ∙ pattern_except c.in-Except.names in
    IfOk-weaker c.empty_where-in-Except.result _ _ (λ v f. subst (λ p. AllMatches L p (tree_of c.args.t.now) (bindings_of v.items)) (sym e) (listing_except c.is_other_symbol.result f (c.is_other_symbol.ensures ∙ ap (λ rs. is_other_symbol rs (tree_of c.args.t.now)) c.deref.ensures.value))) c.empty_where-in-Except.ensures

pub matches-returns-in-Prefix : goal.matches-returns-in-Prefix
matches-returns-in-Prefix t c =
    let L : Language = language_in c.args.self.now.language.now in
    let e : pattern_of c.args.pat.now ≡ prefix c.in-Prefix.prefix = ap pattern_of c.in-Prefix.is ∙ pattern_prefix c.in-Prefix.prefix in
    IfOk-weaker c.empty_where-in-Prefix.result _ _ (λ v f. subst (λ p. AllMatches L p (tree_of c.args.t.now) (bindings_of v.items)) (sym e) (listing_prefix c.has_prefix.result f c.has_prefix.ensures)) c.empty_where-in-Prefix.ensures

pub matches-returns-in-Kind : goal.matches-returns-in-Kind
matches-returns-in-Kind t c =
    let L : Language = language_in c.args.self.now.language.now in
    let e : pattern_of c.args.pat.now ≡ of_kind c.in-Kind.kind = ap pattern_of c.in-Kind.is ∙ pattern_kind c.in-Kind.kind in
    IfOk-weaker c.empty_where-in-Kind.result _ _ (λ v f. subst (λ p. AllMatches L p (tree_of c.args.t.now) (bindings_of v.items)) (sym e) (listing_kind c.is_of_kind.result f c.is_of_kind.ensures)) c.empty_where-in-Kind.ensures

pub matches-returns-in-Lit : goal.matches-returns-in-Lit
matches-returns-in-Lit t c =
    let L : Language = language_in c.args.self.now.language.now in
    let e : pattern_of c.args.pat.now ≡ lit (tree_of c.in-Lit.literal) = ap pattern_of c.in-Lit.is ∙ pattern_lit c.in-Lit.literal in
    IfOk-weaker c.empty_where-in-Lit.result _ _ (λ v f. subst (λ p. AllMatches L p (tree_of c.args.t.now) (bindings_of v.items)) (sym e) (listing_lit c.same_bare.result f c.same_bare.ensures)) c.empty_where-in-Lit.ensures

pub matches-returns-in_ok-any-in-Nt : goal.matches-returns-in_ok-any-in-Nt
matches-returns-in_ok-any-in-Nt t c =
    let L : Language = language_in c.args.self.now.language.now in
    let e : pattern_of c.args.pat.now ≡ nt c.in-Nt.name = ap pattern_of c.in-Nt.is ∙ pattern_nt c.in-Nt.name in
    IfOk-weaker c.empty_where-in-Nt.result _ _ (λ v f. subst (λ p. AllMatches L p (tree_of c.args.t.now) (bindings_of v.items)) (sym e)
    (listing_nt (patterns_of c.alternatives.result.now) c.in_ok-any-in-Nt.any c.alternatives.ensures f c.in_ok-any-in-Nt.ensures)) c.empty_where-in-Nt.ensures

pub match_named-returns : goal.match_named-returns
match_named-returns t c =
    let L : Language = language_in c.args.self.now.language.now in
    let k : IsListing binding_cmp (bindings_of c.deref.result.now) (Match L (pattern_of c.args.part.now) (tree_of c.args.t.now)) = rw c.deref.ensures.value c.in_ok-firsts.ensures in
    IfOk-weaker c.with_name.result _ _ (λ v l. listing_named (naming_of c.args.name) (bindings_of c.deref.result.now) k l) c.with_name.ensures

pub matches-returns-in-Named : goal.matches-returns-in-Named
matches-returns-in-Named t c =
    let L : Language = language_in c.args.self.now.language.now in
    let q : Pattern = pattern_of c.in-Named.part.value in
    let e : pattern_of c.args.pat.now ≡ named c.in-Named.name q = ap pattern_of c.in-Named.is ∙ pattern_named c.in-Named.name c.in-Named.part in
    IfOk-weaker c.match_named.result _ _ (λ v l.
    let m : AllMatches L (named c.in-Named.name q) (tree_of c.args.t.now) (bindings_of v.items) = rw c.deref-in-Named.ensures at l in
    subst (λ p. AllMatches L p (tree_of c.args.t.now) (bindings_of v.items)) (sym e) m) c.match_named.ensures

pub matches-returns-in-Differ : goal.matches-returns-in-Differ
matches-returns-in-Differ t c =
    let L : Language = language_in c.args.self.now.language.now in
    let q : Pattern = pattern_of c.in-Differ.part.value in
    let e : pattern_of c.args.pat.now ≡ differ c.in-Differ.name q = ap pattern_of c.in-Differ.is ∙ pattern_differ c.in-Differ.name c.in-Differ.part in
    IfOk-weaker c.match_named-in-Differ.result _ _ (λ v l.
    let m : AllMatches L (differ c.in-Differ.name q) (tree_of c.args.t.now) (bindings_of v.items) = rw c.deref-in-Differ.ensures at l in
    subst (λ p. AllMatches L p (tree_of c.args.t.now) (bindings_of v.items)) (sym e) m) c.match_named-in-Differ.ensures

pub matches-returns-in-Seq : goal.matches-returns-in-Seq
matches-returns-in-Seq t c =
    let L : Language = language_in c.args.self.now.language.now in
    let ps : Items = items_of (map slot_of c.in-Seq.items.items) in
    let e : pattern_of c.args.pat.now ≡ seq ps = ap pattern_of c.in-Seq.is ∙ pattern_seq c.in-Seq.items in
    IfOk-weaker c.match_list.result _ _ (λ v l.
    let m : AllMatches L (seq ps) (tree_of c.args.t.now) (bindings_of v.items) = rw c.deref-in-Seq.ensures.value at l in
    subst (λ p. AllMatches L p (tree_of c.args.t.now) (bindings_of v.items)) (sym e) m) c.match_list.ensures

pub matches-returns-in-Hole : goal.matches-returns-in-Hole
matches-returns-in-Hole t c =
    let L : Language = language_in c.args.self.now.language.now in
    let e : pattern_of c.args.pat.now ≡ hole = ap pattern_of c.in-Hole.is ∙ pattern_hole in
    IfOk-weaker c.empty_where-in-Hole.result _ _ (λ v f. subst (λ p. AllMatches L p (tree_of c.args.t.now) (bindings_of v.items)) (sym e) (listing_hole c.is_hole.result f c.is_hole.ensures)) c.empty_where-in-Hole.ensures

pub matches-returns-in-HideHole : goal.matches-returns-in-HideHole
matches-returns-in-HideHole t c =
    let L : Language = language_in c.args.self.now.language.now in
    let q : Pattern = pattern_of c.in-HideHole.part.value in
    let e : pattern_of c.args.pat.now ≡ hide_hole q = ap pattern_of c.in-HideHole.is ∙ pattern_hide_hole c.in-HideHole.part in
    let f : pattern_of c.deref-in-HideHole.result.now ≡ q = ap pattern_of c.deref-in-HideHole.ensures in
    IfOk-weaker c.matches.result _ _ (λ v l.
    let m : AllMatches L q (tree_of c.args.t.now) (bindings_of v.items) = subst (λ p. AllMatches L p (tree_of c.args.t.now) (bindings_of v.items)) f l in
    subst (λ p. AllMatches L p (tree_of c.args.t.now) (bindings_of v.items)) (sym e) (listing_hide_hole m)) c.matches.ensures

pub matches-returns-in_ok-any-in-Closed : goal.matches-returns-in_ok-any-in-Closed
matches-returns-in_ok-any-in-Closed t c =
    let L : Language = language_in c.args.self.now.language.now in
    let q : Pattern = pattern_of c.in-Closed.part.value in
    let e : pattern_of c.args.pat.now ≡ closed q = ap pattern_of c.in-Closed.is ∙ pattern_closed c.in-Closed.part in
    let ps : patterns_of c.from_ref.result.now ≡ q ∷ [] = ap patterns_of c.from_ref.ensures.value ∙ ap (λ p. pattern_of p ∷ []) c.deref-in-Closed.ensures in
    IfOk-weaker c.empty_where-in-Closed.result _ _ (λ v f. subst (λ p. AllMatches L p (tree_of c.args.t.now) (bindings_of v.items)) (sym e)
    (listing_closed (patterns_of c.from_ref.result.now) c.in_ok-any-in-Closed.any ps f c.in_ok-any-in-Closed.ensures)) c.empty_where-in-Closed.ensures

-- ---- a pattern in the hole of another

pub match_in_hole-part_at-requires : goal.match_in_hole-part_at-requires
match_in_hole-part_at-requires t c =
    let L : Language = language_in c.args.self.now.language.now in
    let xs = c.deref-spot-items.result.now in
    let i : ℕ = c.loop-spot.spot-index in
    let s : Spot = spot_of c.spot-item.result in
    let e : spots_of (drop i xs) ≡ s ∷ spots_of (drop (i + 1) xs) = rest_at spot_of xs i c.spot-item.result c.loop-spot-test.true c.spot-item.is in
    let h : HasExactly (spots_of xs) (SplitsAt L (pattern_of c.args.left.now) (tree_of c.args.t.now)) =
    subst (λ ys. HasExactly (spots_of ys) (SplitsAt L (pattern_of c.args.left.now) (tree_of c.args.t.now))) (sym c.deref-spot-items.ensures.value) c.in_ok-spots.ensures in
    let a : In s (spots_of xs) = c.loop-spot.invariant.part s (In_along (s ∷ spots_of (drop (i + 1) xs)) (spots_of (drop i xs)) (sym e) (here refl)) in
    subst (IsPlace (tree_of c.args.t.now)) (sym (c.deref.ensures.value ∙ c.in_ok-path.ensures)) (h.sound s a).inside

pub match_in_hole-loop-spot-preserved : goal.match_in_hole-loop-spot-preserved
match_in_hole-loop-spot-preserved t c =
    let L : Language = language_in c.args.self.now.language.now in
    let nothing : List Binding = [] in
    let xs = c.deref-spot-items.result.now in
    let i : ℕ = c.loop-spot.spot-index in
    let s : Spot = spot_of c.spot-item.result in
    let u : Tree = tree_of c.part_at.result.now in
    let step = MatchesOn L (pattern_of c.args.right.now) (tree_of c.args.t.now) in
    let old : List Binding = bindings_of c.loop-spot.found.items in
    let new : List Binding = bindings_of c.add_all_joins.new.found.items in
    let e : spots_of (drop i xs) ≡ s ∷ spots_of (drop (i + 1) xs) = rest_at spot_of xs i c.spot-item.result c.loop-spot-test.true c.spot-item.is in
    let f : u ≡ tree_at (tree_of c.args.t.now) s.path = c.part_at.ensures ∙ ap (tree_at (tree_of c.args.t.now)) (c.deref.ensures.value ∙ c.in_ok-path.ensures) in
    let a : Adds (step s) old new = adds_matches s u (bindings_of c.in_ok-inners.inners.items) old new f c.in_ok-inners.ensures c.in_ok-add_all_joins.ensures in
    collects-next step (spots_of xs) nothing s (spots_of (drop i xs)) (spots_of (drop (i + 1) xs)) old new e c.loop-spot.invariant a

pub match_in_hole-returns : goal.match_in_hole-returns
match_in_hole-returns t c =
    let L : Language = language_in c.args.self.now.language.now in
    let nothing : List Binding = [] in
    let xs = c.deref-spot-items.result.now in
    let i : ℕ = c.loop-spot.spot-index in
    let step = MatchesOn L (pattern_of c.args.right.now) (tree_of c.args.t.now) in
    let found : List Binding = bindings_of c.loop-spot.found.items in
    let h : HasExactly (spots_of xs) (SplitsAt L (pattern_of c.args.left.now) (tree_of c.args.t.now)) =
    subst (λ ys. HasExactly (spots_of ys) (SplitsAt L (pattern_of c.args.left.now) (tree_of c.args.t.now))) (sym c.deref-spot-items.ensures.value) c.in_ok-spots.ensures in
    let a : Adds (Arises step (spots_of xs)) nothing found = collects-end step (spots_of xs) (spots_of (drop i xs)) nothing found (rest_none spot_of xs i (omega arith)) c.loop-spot.invariant in
    IfOk-weaker c.listing.result _ _ (λ v l. listing_in_hole (spots_of xs) h (listing_of_all (Arises step (spots_of xs)) found (bindings_of v.items) a l)) c.listing.ensures

-- A list pattern at a list that comes in three parts: what all parts match together, and that one part is split while the others match.
use Rattle.std.proofs.Common.{◌≡◌, ℕ, ◌+◌, inl, inr, Bool, true, false, Some, None, List, [], ◌++◌, length, refl, sym, subst, arith}
use Rattle.rdx_term.specs.Tree.{Tree, list, trees}
use Rattle.rdx_lang.proofs.Collecting.{listing_of}
use Rattle.rdx_lang.proofs.RuleSteps.{list_inside}
use Rattle.rdx_lang.specs.Bindings.{Binding}
use Rattle.rdx_lang.specs.Collecting.{HasExactly}
use Rattle.rdx_lang.specs.Listing.{IsListing, AllMatches}
use Rattle.rdx_lang.specs.Order.{binding_cmp}
use Rattle.rdx_lang.specs.Patterns.{seq, Language}
use Rattle.rdx_lang.specs.PatternView.{Slot, items_of}
use Rattle.rdx_lang.specs.Rules.{Match, MatchItems, match_seq}
use Rattle.rdx_bind.proofs.AcrossRows.{RowsAreMaps}
use Rattle.rdx_bind.proofs.AtomListings.{listing_none}
use Rattle.rdx_bind.proofs.Cuts.{OneIsSingle, both_match, OneSplits, first_splits, other_splits, one_splits_of}
use Rattle.rdx_bind.proofs.Gathering.{exactly_as, exactly_none}
use Rattle.rdx_bind.proofs.PartRows.{binds_both, sound_both, spots_both}
use Rattle.rdx_bind.proofs.SpotRows.{AreMapRows, matches_are_maps, matches_append}
use Rattle.rdx_bind.proofs.SplitItems.{list_splits, items_split}
use Rattle.rdx_bind.specs.Combining.{JoinsAcross}
use Rattle.rdx_bind.specs.PartRows.{PartSplits, RowsFit, HaveSpots, HaveAll, IsSearched, part_matches, part_splits, part_fails}
use Rattle.rdx_bind.specs.Parts.{Part, IsCut, Unmatched, BindAcross, FoundRows, rows_found, none_found}
use Rattle.rdx_bind.specs.Rows.{SplitRow, SpotsAcross, all_matches}
use Rattle.rdx_bind.specs.Spots.{Spot, SplitsAt, ItemsSplitAt}

-- the items of the part match its terms, whatever they bind
abbrev PartMatches : Language → Part → Type 0
PartMatches L part = (b : Binding) × MatchItems L (items_of part.slots) (trees part.terms) b

-- the rows of each part have its spots, where the other parts match
record EachHasSpots (L : Language) (x y z : Part) (firsts middles lasts : List SplitRow) : Type 0 where
  pub first : PartMatches L y → PartMatches L z → HaveSpots L x firsts
  pub middle : PartMatches L x → PartMatches L z → HaveSpots L y middles
  pub last : PartMatches L x → PartMatches L y → HaveSpots L z lasts

-- one part splits, and the others match
data OneOfThree (L : Language) (x y z : Part) : Type 0 where
  first_of_three : (r : Spot) → PartSplits L x r → PartMatches L y → PartMatches L z → OneOfThree L x y z
  middle_of_three : (r : Spot) → PartSplits L y r → PartMatches L x → PartMatches L z → OneOfThree L x y z
  last_of_three : (r : Spot) → PartSplits L z r → PartMatches L x → PartMatches L y → OneOfThree L x y z

module _ (L : Language) {slots : List Slot} {t : Tree} {x y z : Part} (cut : IsCut slots t x y z) where
  -- the first part is of single items, and so is the last
  outer : OneIsSingle x.slots (y.slots ++ z.slots) x.terms (y.terms ++ z.terms)
  outer = inl cut.first_singles

  inner : OneIsSingle y.slots z.slots y.terms z.terms
  inner = inr cut.last_singles

  -- what holds of them holds of the list
  along_match : (b : Binding) → MatchItems L (items_of (x.slots ++ (y.slots ++ z.slots))) (trees (x.terms ++ (y.terms ++ z.terms))) b → Match L (seq (items_of slots)) t b
  along_match b m = subst (λ (u : Tree). Match L (seq (items_of slots)) u b) (sym cut.terms)
      (subst (λ (s : List Slot). Match L (seq (items_of s)) (list cut.mark (trees (x.terms ++ (y.terms ++ z.terms)))) b) (sym cut.items) (match_seq m))

  match_along : (b : Binding) → Match L (seq (items_of slots)) t b → MatchItems L (items_of (x.slots ++ (y.slots ++ z.slots))) (trees (x.terms ++ (y.terms ++ z.terms))) b
  match_along b m = list_inside (subst (λ (s : List Slot). Match L (seq (items_of s)) (list cut.mark (trees (x.terms ++ (y.terms ++ z.terms)))) b) cut.items
      (subst (λ (u : Tree). Match L (seq (items_of slots)) u b) cut.terms m))

  along_split : (r : Spot) → ItemsSplitAt L 0 (items_of (x.slots ++ (y.slots ++ z.slots))) (trees (x.terms ++ (y.terms ++ z.terms))) r → SplitsAt L (seq (items_of slots)) t r
  along_split r h = subst (λ (u : Tree). SplitsAt L (seq (items_of slots)) u r) (sym cut.terms)
      (subst (λ (s : List Slot). SplitsAt L (seq (items_of s)) (list cut.mark (trees (x.terms ++ (y.terms ++ z.terms)))) r) (sym cut.items) (list_splits r h))

  split_along : (r : Spot) → SplitsAt L (seq (items_of slots)) t r → ItemsSplitAt L 0 (items_of (x.slots ++ (y.slots ++ z.slots))) (trees (x.terms ++ (y.terms ++ z.terms))) r
  split_along r h = items_split r (subst (λ (s : List Slot). SplitsAt L (seq (items_of s)) (list cut.mark (trees (x.terms ++ (y.terms ++ z.terms)))) r) cut.items
      (subst (λ (u : Tree). SplitsAt L (seq (items_of slots)) u r) cut.terms h))

  -- ---- matching

  -- what comes across the rows of all parts is what the list pattern binds
  pub listing_parts_of : {bs : List Binding} (firsts middles lasts : List (List Binding)) → RowsAreMaps firsts → RowsAreMaps middles → BindAcross L x.slots x.terms firsts
      → BindAcross L y.slots y.terms middles → BindAcross L z.slots z.terms lasts → IsListing binding_cmp bs (JoinsAcross (firsts ++ (middles ++ lasts)))
      → AllMatches L (seq (items_of slots)) t bs
  listing_parts_of firsts middles lasts v w f g h l =
      let k : BindAcross L (y.slots ++ z.slots) (y.terms ++ z.terms) (middles ++ lasts) = binds_both y.slots z.slots y.terms z.terms middles lasts inner w g h in
      let all : BindAcross L (x.slots ++ (y.slots ++ z.slots)) (x.terms ++ (y.terms ++ z.terms)) (firsts ++ (middles ++ lasts)) =
      binds_both x.slots (y.slots ++ z.slots) x.terms (y.terms ++ z.terms) firsts (middles ++ lasts) outer v f k in
      listing_of (λ b a. along_match b ((all b).1 a)) (λ b m. (all b).0 (match_along b m)) l

  -- each part matches, where the list pattern does
  first_matches : (b : Binding) → Match L (seq (items_of slots)) t b → PartMatches L x
  first_matches b m = let k = both_match x.slots (y.slots ++ z.slots) x.terms (y.terms ++ z.terms) outer b (match_along b m) in (k.first, k.first_matched)

  middle_matches : (b : Binding) → Match L (seq (items_of slots)) t b → PartMatches L y
  middle_matches b m =
      let k = both_match x.slots (y.slots ++ z.slots) x.terms (y.terms ++ z.terms) outer b (match_along b m) in
      let l = both_match y.slots z.slots y.terms z.terms inner k.other k.other_matched in
      (l.first, l.first_matched)

  last_matches : (b : Binding) → Match L (seq (items_of slots)) t b → PartMatches L z
  last_matches b m =
      let k = both_match x.slots (y.slots ++ z.slots) x.terms (y.terms ++ z.terms) outer b (match_along b m) in
      let l = both_match y.slots z.slots y.terms z.terms inner k.other k.other_matched in
      (l.other, l.other_matched)

  -- where a part does not match, the list pattern binds nothing
  pub first_unmatched : {bs : List Binding} → Unmatched L x.slots x.terms → bs ≡ [] → AllMatches L (seq (items_of slots)) t bs
  first_unmatched u e = listing_none e (λ b m. let k = first_matches b m in u k.0 k.1)

  pub middle_unmatched : {bs : List Binding} → Unmatched L y.slots y.terms → bs ≡ [] → AllMatches L (seq (items_of slots)) t bs
  middle_unmatched u e = listing_none e (λ b m. let k = middle_matches b m in u k.0 k.1)

  pub last_unmatched : {bs : List Binding} → Unmatched L z.slots z.terms → bs ≡ [] → AllMatches L (seq (items_of slots)) t bs
  last_unmatched u e = listing_none e (λ b m. let k = last_matches b m in u k.0 k.1)

  -- ---- splitting

  -- the places of the parts
  middle_at : (r : Spot) → PartSplits L y r → ItemsSplitAt L (0 + length x.terms) (items_of y.slots) (trees y.terms) r
  middle_at r h =
      let e : y.place ≡ 0 + length x.terms = omega (arith, cut.middle_place) in
      subst (λ (n : ℕ). ItemsSplitAt L n (items_of y.slots) (trees y.terms) r) e h

  at_middle : (r : Spot) → ItemsSplitAt L (0 + length x.terms) (items_of y.slots) (trees y.terms) r → PartSplits L y r
  at_middle r h =
      let e : 0 + length x.terms ≡ y.place = omega (arith, cut.middle_place) in
      subst (λ (n : ℕ). ItemsSplitAt L n (items_of y.slots) (trees y.terms) r) e h

  last_at : (r : Spot) → PartSplits L z r → ItemsSplitAt L (0 + length x.terms + length y.terms) (items_of z.slots) (trees z.terms) r
  last_at r h =
      let e : z.place ≡ 0 + length x.terms + length y.terms = omega (arith, cut.last_place) in
      subst (λ (n : ℕ). ItemsSplitAt L n (items_of z.slots) (trees z.terms) r) e h

  at_last : (r : Spot) → ItemsSplitAt L (0 + length x.terms + length y.terms) (items_of z.slots) (trees z.terms) r → PartSplits L z r
  at_last r h =
      let e : 0 + length x.terms + length y.terms ≡ z.place = omega (arith, cut.last_place) in
      subst (λ (n : ℕ). ItemsSplitAt L n (items_of z.slots) (trees z.terms) r) e h

  first_at : (r : Spot) → PartSplits L x r → ItemsSplitAt L 0 (items_of x.slots) (trees x.terms) r
  first_at r h = subst (λ (n : ℕ). ItemsSplitAt L n (items_of x.slots) (trees x.terms) r) cut.first_place h

  at_first : (r : Spot) → ItemsSplitAt L 0 (items_of x.slots) (trees x.terms) r → PartSplits L x r
  at_first r h = subst (λ (n : ℕ). ItemsSplitAt L n (items_of x.slots) (trees x.terms) r) (sym cut.first_place) h

  -- where the list is split, one part is
  one_of_three : (r : Spot) → SplitsAt L (seq (items_of slots)) t r → OneOfThree L x y z
  one_of_three r h = by_first (one_splits_of x.slots (y.slots ++ z.slots) x.terms (y.terms ++ z.terms) outer 0 r (split_along r h))
    where
      by_second : {s : Spot} → PartMatches L x → OneSplits L (0 + length x.terms) y.slots z.slots y.terms z.terms s → OneOfThree L x y z
      by_second m (first_splits {s = s} {d = d} g k p) = middle_of_three s (at_middle s g) m (d, k)
      by_second m (other_splits {s = s} {c = c} k g p) = last_of_three s (at_last s g) m (c, k)

      by_first : OneSplits L 0 x.slots (y.slots ++ z.slots) x.terms (y.terms ++ z.terms) r → OneOfThree L x y z
      by_first (first_splits {s = s} {d = d} g m p) =
          let k = both_match y.slots z.slots y.terms z.terms inner d m in
          first_of_three s (at_first s g) (k.first, k.first_matched) (k.other, k.other_matched)
      by_first (other_splits {s = s} {c = c} m g p) = by_second (c, m) (one_splits_of y.slots z.slots y.terms z.terms inner (0 + length x.terms) s g)

  -- what comes across the rows of the last two parts is what their items bind
  binds_behind : (middles lasts : List SplitRow) → AreMapRows middles → RowsFit L y middles → RowsFit L z lasts
      → BindAcross L (y.slots ++ z.slots) (y.terms ++ z.terms) (all_matches (middles ++ lasts))
  binds_behind middles lasts w g h = subst (λ (ms : List (List Binding)). BindAcross L (y.slots ++ z.slots) (y.terms ++ z.terms) ms) (sym (matches_append middles lasts))
      (binds_both y.slots z.slots y.terms z.terms (all_matches middles) (all_matches lasts) inner (matches_are_maps middles w) g.binds h.binds)

  -- the rows of all parts have exactly the spots of the list, where those of each part have its spots if the others match
  exactly_parts_of : {found : List Spot} (firsts middles lasts : List SplitRow) → AreMapRows firsts → AreMapRows middles → RowsFit L x firsts → RowsFit L y middles
      → RowsFit L z lasts → EachHasSpots L x y z firsts middles lasts → HasExactly found (SpotsAcross (firsts ++ (middles ++ lasts)))
      → HasExactly found (SplitsAt L (seq (items_of slots)) t)
  exactly_parts_of firsts middles lasts v w f g h e = exactly_as (λ r a. along_split r (sound r a)) (λ r k. complete r (split_along r k))
    where
      behind : BindAcross L (y.slots ++ z.slots) (y.terms ++ z.terms) (all_matches (middles ++ lasts))
      behind = binds_behind middles lasts w g h

      sound_behind : (r : Spot) → SpotsAcross (middles ++ lasts) r → ItemsSplitAt L (0 + length x.terms) (items_of (y.slots ++ z.slots)) (trees (y.terms ++ z.terms)) r
      sound_behind = sound_both y.slots z.slots y.terms z.terms (0 + length x.terms) middles lasts g.binds h.binds w (λ s a. middle_at s (g.sound s a)) (λ s a. last_at s (h.sound s a))

      sound : (r : Spot) → SpotsAcross (firsts ++ (middles ++ lasts)) r → ItemsSplitAt L 0 (items_of (x.slots ++ (y.slots ++ z.slots))) (trees (x.terms ++ (y.terms ++ z.terms))) r
      sound = sound_both x.slots (y.slots ++ z.slots) x.terms (y.terms ++ z.terms) 0 firsts (middles ++ lasts) f.binds behind v (λ s a. first_at s (f.sound s a)) sound_behind

      has_first : (d : Binding) → MatchItems L (items_of (y.slots ++ z.slots)) (trees (y.terms ++ z.terms)) d → (s : Spot) → ItemsSplitAt L 0 (items_of x.slots) (trees x.terms) s
          → SpotsAcross firsts s
      has_first d m s a =
          let k = both_match y.slots z.slots y.terms z.terms inner d m in
          e.first (k.first, k.first_matched) (k.other, k.other_matched) s (at_first s a)

      has_behind : (c : Binding) → MatchItems L (items_of x.slots) (trees x.terms) c → (r : Spot)
          → ItemsSplitAt L (0 + length x.terms) (items_of (y.slots ++ z.slots)) (trees (y.terms ++ z.terms)) r → SpotsAcross (middles ++ lasts) r
      has_behind c m = spots_both y.slots z.slots y.terms z.terms (0 + length x.terms) middles lasts g.binds h.binds inner
          (λ d n s a. e.middle (c, m) (d, n) s (at_middle s a)) (λ d n s a. e.last (c, m) (d, n) s (at_last s a))

      complete : (r : Spot) → ItemsSplitAt L 0 (items_of (x.slots ++ (y.slots ++ z.slots))) (trees (x.terms ++ (y.terms ++ z.terms))) r → SpotsAcross (firsts ++ (middles ++ lasts)) r
      complete = spots_both x.slots (y.slots ++ z.slots) x.terms (y.terms ++ z.terms) 0 firsts (middles ++ lasts) f.binds behind outer has_first has_behind

  -- where each part has all
  pub exactly_all_parts : {found : List Spot} (firsts middles lasts : List SplitRow) → AreMapRows firsts → AreMapRows middles → HaveAll L x firsts → HaveAll L y middles
      → HaveAll L z lasts → HasExactly found (SpotsAcross (firsts ++ (middles ++ lasts))) → HasExactly found (SplitsAt L (seq (items_of slots)) t)
  exactly_all_parts firsts middles lasts v w f g h =
      exactly_parts_of firsts middles lasts v w f.fit g.fit h.fit (record { first = λ m n. f.spots; middle = λ m n. g.spots; last = λ m n. h.spots })

-- ---- what the search of the parts has found

module _ {L : Language} where
  -- bindings that are found are those of their part
  pub found_bind : {slots : List Slot} {ts : List Tree} {rows : List (List Binding)} → FoundRows L slots ts (Some rows) → BindAcross L slots ts rows
  found_bind (rows_found f) = f

  -- where nothing is found the items do not match
  pub not_found : {slots : List Slot} {ts : List Tree} → FoundRows L slots ts None → Unmatched L slots ts
  not_found (none_found u) = u

  -- rows that are found are those of their part
  pub found_fit : {part : Part} {before all : Bool} {rows : List SplitRow} → IsSearched L part before all (Some rows) → RowsFit L part rows
  found_fit (part_matches f) = f
  found_fit (part_splits u h) = h.fit

  -- where a part matches, and all before it do, all do
  passed : {part : Part} {before all : Bool} {rows : List SplitRow} → IsSearched L part before all (Some rows) → PartMatches L part → before ≡ true → all ≡ true
  passed (part_matches f) m e = e
  passed (part_splits u h) m e = absurd (u m.0 m.1)

  -- the one part that does not match
  by_last : {x y z : Part} {a b : Bool} {firsts middles lasts : List SplitRow} → IsSearched L z a b (Some lasts) → IsSearched L y b false (Some middles) → a ≡ true
      → EachHasSpots L x y z firsts middles lasts
  by_last (part_splits u h) s e = record { first = λ m n. absurd (u n.0 n.1); middle = λ m n. absurd (u n.0 n.1); last = λ m n. h.spots }
  by_last (part_matches f) (part_splits u h) e = record { first = λ m n. absurd (u m.0 m.1); middle = λ m n. h.spots; last = λ m n. absurd (u n.0 n.1) }
  by_last (part_matches f) (part_matches g) e = absurd cc

  has_spots : {x y z : Part} {a b : Bool} {firsts middles lasts : List SplitRow} → IsSearched L x true a (Some firsts) → IsSearched L z a b (Some lasts) → IsSearched L y b false (Some middles)
      → EachHasSpots L x y z firsts middles lasts
  has_spots (part_splits u h) r s = record { first = λ m n. h.spots; middle = λ m n. absurd (u m.0 m.1); last = λ m n. absurd (u m.0 m.1) }
  has_spots (part_matches f) r s = by_last r s refl

module _ (L : Language) {slots : List Slot} {t : Tree} {x y z : Part} (cut : IsCut slots t x y z) where
  -- where one part does not match, it alone is split
  pub exactly_one_part : {a b : Bool} {found : List Spot} (firsts middles lasts : List SplitRow) → AreMapRows firsts → AreMapRows middles → IsSearched L x true a (Some firsts)
      → IsSearched L z a b (Some lasts) → IsSearched L y b false (Some middles) → HasExactly found (SpotsAcross (firsts ++ (middles ++ lasts)))
      → HasExactly found (SplitsAt L (seq (items_of slots)) t)
  exactly_one_part firsts middles lasts v w f g h =
      exactly_parts_of L cut firsts middles lasts v w (found_fit f) (found_fit h) (found_fit g) (has_spots f g h)

  -- nothing is split where the first part fails
  pub first_fails : {a : Bool} {found : List Spot} → IsSearched L x true a None → found ≡ [] → HasExactly found (SplitsAt L (seq (items_of slots)) t)
  first_fails (part_fails u f) e = exactly_none (SplitsAt L (seq (items_of slots)) t) e (λ r h. by_part (one_of_three L cut r h))
    where
      by_part : OneOfThree L x y z → ⊥
      by_part (first_of_three s k m n) = f refl s k
      by_part (middle_of_three s k m n) = u m.0 m.1
      by_part (last_of_three s k m n) = u m.0 m.1

  -- nor where the last does, behind the first
  pub last_fails : {a b : Bool} {firsts : List SplitRow} {found : List Spot} → IsSearched L x true a (Some firsts) → IsSearched L z a b None → found ≡ []
      → HasExactly found (SplitsAt L (seq (items_of slots)) t)
  last_fails s (part_fails u f) e = exactly_none (SplitsAt L (seq (items_of slots)) t) e (λ r h. by_part (one_of_three L cut r h))
    where
      by_part : OneOfThree L x y z → ⊥
      by_part (first_of_three q k m n) = u n.0 n.1
      by_part (middle_of_three q k m n) = u n.0 n.1
      by_part (last_of_three q k m n) = f (passed s m refl) q k

  -- nor where the middle does, behind both
  pub middle_fails : {a b c : Bool} {firsts lasts : List SplitRow} {found : List Spot} → IsSearched L x true a (Some firsts) → IsSearched L z a b (Some lasts)
      → IsSearched L y b c None → found ≡ [] → HasExactly found (SplitsAt L (seq (items_of slots)) t)
  middle_fails s o (part_fails u f) e = exactly_none (SplitsAt L (seq (items_of slots)) t) e (λ r h. by_part (one_of_three L cut r h))
    where
      by_part : OneOfThree L x y z → ⊥
      by_part (first_of_three q k m n) = u m.0 m.1
      by_part (middle_of_three q k m n) = f (passed o n (passed s m refl)) q k
      by_part (last_of_three q k m n) = u n.0 n.1

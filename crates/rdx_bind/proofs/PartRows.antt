-- Rows of items that come in two parts: what comes across all is what all items bind, where the rows of each part are those of its items, and
-- where all rows split the items do. So rows are put together from the first item to the last.
use Rattle.std.proofs.Common.{◌≡◌, ℕ, suc, ◌+◌, inl, inr, Bool, true, false, Some, None, List, [], ◌∷◌, ◌++◌, length, refl, sym, ap, subst, arith}
use Rattle.rdx_term.specs.Tree.{Tree, trees}
use Rattle.rdx_lang.proofs.Collecting.{In_along, no_member}
use Rattle.rdx_lang.proofs.RuleSteps.{item_inside}
use Rattle.rdx_lang.specs.Bindings.{Binding}
use Rattle.rdx_lang.specs.Collecting.{HasExactly, across_none, across_row}
use Rattle.rdx_lang.specs.Members.{In}
use Rattle.rdx_lang.specs.Patterns.{Pattern, Language}
use Rattle.rdx_lang.specs.PatternView.{Slot, just, items_of}
use Rattle.rdx_lang.specs.Rules.{Match, MatchItems, match_none, match_one}
use Rattle.rdx_bind.proofs.AcrossRows.{RowsAreMaps, AcrossBoth, across_parts, parts_across}
use Rattle.rdx_bind.proofs.Cuts.{OneIsSingle, BothMatch, both_match, OneSplits, first_splits, other_splits, one_splits_of}
use Rattle.rdx_bind.proofs.Gathering.{exactly_none}
use Rattle.rdx_bind.proofs.PartedItems.{parts_match}
use Rattle.rdx_bind.proofs.PartedSplits.{parts_split_first, parts_split_other}
use Rattle.rdx_bind.proofs.SpotRows.{AreMapRows, spots_parts, parts_first, parts_other}
use Rattle.rdx_bind.specs.Combining.{JoinsAcross}
use Rattle.rdx_bind.specs.PartRows.{AreRows, no_rows, more_rows, RowsFit, HaveAll, IsSearched, part_matches, part_splits, part_fails}
use Rattle.rdx_bind.specs.Parts.{Part, AreSingles, Unmatched, BindAcross}
use Rattle.rdx_bind.specs.Rows.{SplitRow, SpotsAcross, across_here, across_behind, all_matches}
use Rattle.rdx_bind.specs.Searching.{MatchesNone, IsRowOf, row_matches, row_splits, row_fails}
use Rattle.rdx_bind.specs.Spots.{Spot, PlacedAt, ItemsSplitAt, splits_here, splits_behind}

-- ---- two parts

module _ {L : Language} (xs ys : List Slot) (us vs : List Tree) where
  -- what comes across the rows of both is what the items bind
  pub binds_both : (rows more : List (List Binding)) → OneIsSingle xs ys us vs → RowsAreMaps rows → BindAcross L xs us rows → BindAcross L ys vs more
      → BindAcross L (xs ++ ys) (us ++ vs) (rows ++ more)
  binds_both rows more o w f g b = (there, back)
    where
      there : MatchItems L (items_of (xs ++ ys)) (trees (us ++ vs)) b → JoinsAcross (rows ++ more) b
      there m = let k : BothMatch L xs ys us vs b = both_match xs ys us vs o b m in
          parts_across rows more k.first k.other b ((f k.first).0 k.first_matched) ((g k.other).0 k.other_matched) k.joined

      back : JoinsAcross (rows ++ more) b → MatchItems L (items_of (xs ++ ys)) (trees (us ++ vs)) b
      back a = let k : AcrossBoth rows more b = across_parts rows more b w a in
          parts_match xs ys us vs k.first k.other b ((f k.first).1 k.across_firsts) ((g k.other).1 k.across_others) k.joined

  module _ (n : ℕ) (rows more : List SplitRow) (f : BindAcross L xs us (all_matches rows)) (g : BindAcross L ys vs (all_matches more)) where
    -- where the rows split, the items do
    pub sound_both : AreMapRows rows → ((s : Spot) → SpotsAcross rows s → ItemsSplitAt L n (items_of xs) (trees us) s)
        → ((s : Spot) → SpotsAcross more s → ItemsSplitAt L (n + length us) (items_of ys) (trees vs) s)
        → (r : Spot) → SpotsAcross (rows ++ more) r → ItemsSplitAt L n (items_of (xs ++ ys)) (trees (us ++ vs)) r
    sound_both w h k r q = elim (spots_parts rows more r w q) [
      | inl p ↦ parts_split_first xs ys n us vs p.spot r p.other (h p.spot p.within) ((g p.other).1 p.across) p.by
      | inr p ↦ parts_split_other xs ys n us vs p.spot r p.first ((f p.first).1 p.across) (k p.spot p.within) p.by
    ]

    -- where the items split, the rows do, if those of each part do where the other part matches
    pub spots_both : OneIsSingle xs ys us vs
        → ((d : Binding) → MatchItems L (items_of ys) (trees vs) d → (s : Spot) → ItemsSplitAt L n (items_of xs) (trees us) s → SpotsAcross rows s)
        → ((c : Binding) → MatchItems L (items_of xs) (trees us) c → (s : Spot) → ItemsSplitAt L (n + length us) (items_of ys) (trees vs) s → SpotsAcross more s)
        → (r : Spot) → ItemsSplitAt L n (items_of (xs ++ ys)) (trees (us ++ vs)) r → SpotsAcross (rows ++ more) r
    spots_both o h k r q = go (one_splits_of xs ys us vs o n r q)
      where
        go : OneSplits L n xs ys us vs r → SpotsAcross (rows ++ more) r
        go (first_splits {s = s} {d = d} i m p) = parts_first rows more s r d (h d m s i) ((g d).0 m) p
        go (other_splits {s = s} {c = c} m i p) = parts_other rows more s r c (k c m s i) ((f c).0 m) p

-- ---- one item

module _ {L : Language} {p : Pattern} {t : Tree} where
  -- the bindings of an item come across its row
  pub one_binds : (row : List Binding) → HasExactly row (Match L p t) → BindAcross L (just p ∷ []) (t ∷ []) (row ∷ [])
  one_binds row h b = (there, back)
    where
      there : MatchItems L (items_of (just p ∷ [])) (trees (t ∷ [])) b → JoinsAcross (row ∷ []) b
      there (match_one {c = c} m match_none j) = across_row (h.complete c m) across_none j

      back : JoinsAcross (row ∷ []) b → MatchItems L (items_of (just p ∷ [])) (trees (t ∷ [])) b
      back (across_row i across_none j) = match_one (h.sound _ i) match_none j

  -- its spots do
  pub one_spots : {n : ℕ} (row : SplitRow) → ((s : Spot) → PlacedAt L n p t s → In s row.spots) → (r : Spot) → ItemsSplitAt L n (items_of (just p ∷ [])) (trees (t ∷ [])) r
      → SpotsAcross (row ∷ []) r
  one_spots row h r (splits_here {s = s} q match_none j e) = across_here (h s q) across_none (record { joined = j; path = e })
  one_spots row h r (splits_behind m q j e) = elim q [ ]

-- items do not match where one of them does not, behind single ones
pub item_unmatched : {L : Language} {p : Pattern} {t : Tree} (xs ys : List Slot) (us vs : List Tree) → AreSingles xs us → MatchesNone L p t
    → Unmatched L (xs ++ just p ∷ ys) (us ++ t ∷ vs)
item_unmatched {p = p} {t = t} xs ys us vs s o b m =
    let k = both_match xs (just p ∷ ys) us (t ∷ vs) (inl s) b m in
    let i = item_inside k.other_matched in
    o i.first i.first_matched

-- ---- rows of single items

module _ {L : Language} where
  -- the items are single ones
  pub rows_single : {n : ℕ} {slots : List Slot} {ts : List Tree} {rows : List SplitRow} → AreRows L n slots ts rows → AreSingles slots ts
  rows_single no_rows = record { single = refl; as_many = refl }
  rows_single (more_rows m f u) = let k = rows_single u in record { single = k.single; as_many = ap suc k.as_many }

  -- what comes across the rows is what the items bind
  rows_join : {n : ℕ} {slots : List Slot} {ts : List Tree} {rows : List SplitRow} (b : Binding) → AreRows L n slots ts rows → JoinsAcross (all_matches rows) b
      → MatchItems L (items_of slots) (trees ts) b
  rows_join b no_rows across_none = match_none
  rows_join b (more_rows m f u) (across_row {y = d} i a j) = match_one (m.sound _ i) (rows_join d u a) j

  -- and the other way
  join_rows : {n : ℕ} {slots : List Slot} {ts : List Tree} {rows : List SplitRow} (b : Binding) → AreRows L n slots ts rows → MatchItems L (items_of slots) (trees ts) b
      → JoinsAcross (all_matches rows) b
  join_rows b no_rows match_none = across_none
  join_rows b (more_rows m f u) (match_one {c = c} {d = d} h g j) = across_row (m.complete c h) (join_rows d u g) j

  pub rows_bind : {n : ℕ} {slots : List Slot} {ts : List Tree} {rows : List SplitRow} → AreRows L n slots ts rows → BindAcross L slots ts (all_matches rows)
  rows_bind u b = (join_rows b u, rows_join b u)

  -- where the rows split, the items do
  pub rows_sound : {n : ℕ} {slots : List Slot} {ts : List Tree} {rows : List SplitRow} (r : Spot) → AreRows L n slots ts rows → SpotsAcross rows r
      → ItemsSplitAt L n (items_of slots) (trees ts) r
  rows_sound r no_rows a = elim a [ ]
  rows_sound r (more_rows m f u) (across_here {s = s} {d = d} i a p) = splits_here (f s i) (rows_join d u a) p.joined p.path
  rows_sound r (more_rows m f u) (across_behind {s = s} i a j e) = splits_behind (m.sound _ i) (rows_sound s u a) j e

  -- so they fit their part
  pub rows_fit : {n : ℕ} {slots : List Slot} {ts : List Tree} {rows : List SplitRow} → AreRows L n slots ts rows
      → RowsFit L (record { slots = slots; terms = ts; place = n }) rows
  rows_fit u = record { binds = rows_bind u; sound = λ r a. rows_sound r u a }

  -- one row more
  pub rows_next : {p : Pattern} {t : Tree} {n : ℕ} {slots : List Slot} {ts : List Tree} {rows : List SplitRow} (row : SplitRow) → AreRows L n slots ts rows
      → HasExactly row.matches (Match L p t) → ((s : Spot) → In s row.spots → PlacedAt L (n + length ts) p t s)
      → AreRows L n (slots ++ just p ∷ []) (ts ++ t ∷ []) (rows ++ row ∷ [])
  rows_next {p} {t} {n} row no_rows m f =
      let z : n + 0 ≡ n = omega arith in
      more_rows m (λ s i. subst (λ (k : ℕ). PlacedAt L k p t s) z (f s i)) no_rows
  rows_next {p} {t} {n} row (more_rows {ts = ts} k g u) m f =
      let z : n + suc (length ts) ≡ suc n + length ts = omega arith in
      more_rows k g (rows_next row u m (λ s i. subst (λ (o : ℕ). PlacedAt L o p t s) z (f s i)))

-- ---- the search from the first item of a part to the last

module _ {L : Language} (p : Pattern) (t : Tree) (n : ℕ) (xs : List Slot) (us : List Tree) (rows : List SplitRow) (u : AreRows L n xs us rows) where
  -- the item that comes next, and those behind it, match where it does
  next_matches : (ys : List Slot) (vs : List Tree) {b : Binding} → MatchesNone L p t → MatchItems L (items_of (just p ∷ ys)) (trees (t ∷ vs)) b → ⊥
  next_matches ys vs f m = let k = item_inside m in f k.first k.first_matched

  -- one side is of single items
  first_single : (ys : List Slot) (vs : List Tree) → OneIsSingle xs ys us vs
  first_single ys vs = inl (rows_single u)

  -- all items so far, and this one
  abbrev Next : Part
  Next = record { slots = xs ++ just p ∷ []; terms = us ++ t ∷ []; place = n }

  module _ (row : SplitRow) (m : HasExactly row.matches (Match L p t)) (f : (s : Spot) → In s row.spots → PlacedAt L (n + length us) p t s) (w : AreMapRows rows) where
    -- the rows still fit
    next_fits : RowsFit L Next (rows ++ row ∷ [])
    next_fits = rows_fit (rows_next row u m f)

    -- where those before do not match and have their spots, so do all
    still_split : Unmatched L xs us → HaveAll L (record { slots = xs; terms = us; place = n }) rows → HaveAll L Next (rows ++ row ∷ [])
    still_split o h = record {
      fit = next_fits;
      spots = spots_both xs (just p ∷ []) us (t ∷ []) n rows (row ∷ []) (rows_bind u) (one_binds row.matches m) (first_single (just p ∷ []) (t ∷ [])) (λ d g s i. h.spots s i) (λ c g s i. absurd (o c g));
    }

    -- where this one does not, and has its spots
    now_split : MatchesNone L p t → ((s : Spot) → PlacedAt L (n + length us) p t s → In s row.spots) → HaveAll L Next (rows ++ row ∷ [])
    now_split o h = record {
      fit = next_fits;
      spots = spots_both xs (just p ∷ []) us (t ∷ []) n rows (row ∷ []) (rows_bind u) (one_binds row.matches m) (first_single (just p ∷ []) (t ∷ []))
          (λ d g s i. absurd (next_matches [] [] o g)) (λ c g s i. one_spots row h s i);
    }

  -- then none of them match together
  unmatched_before : (ys : List Slot) (vs : List Tree) → Unmatched L xs us → Unmatched L (xs ++ ys) (us ++ vs)
  unmatched_before ys vs o b m = let k = both_match xs ys us vs (first_single ys vs) b m in o k.first k.first_matched

  -- the search with one row more
  pub search_next : {before all : Bool} (all' : Bool) (row : SplitRow) → AreMapRows rows → IsSearched L (record { slots = xs; terms = us; place = n }) before all (Some rows)
      → IsRowOf L (n + length us) p t all (Some row) → ((row.matches ≡ [] → ⊥) → all' ≡ all) → (row.matches ≡ [] → all' ≡ false)
      → AreRows L n (xs ++ just p ∷ []) (us ++ t ∷ []) (rows ++ row ∷ []) × IsSearched L Next before all' (Some (rows ++ row ∷ []))
  search_next {before} {all} all' row w (part_matches h) (row_matches k m e) same other =
      let f : (s : Spot) → In s row.spots → PlacedAt L (n + length us) p t s = λ s i. no_member (In_along row.spots [] e i) in
      (rows_next row u m f, subst (λ (a : Bool). IsSearched L Next before a (Some (rows ++ row ∷ []))) (sym (same k)) (part_matches (next_fits row m f w)))
  search_next {before} {all} all' row w (part_matches h) (row_splits e o k) same other =
      let m : HasExactly row.matches (Match L p t) = exactly_none (Match L p t) e o in (
        rows_next row u m k.sound,
        subst (λ (a : Bool). IsSearched L Next before a (Some (rows ++ row ∷ []))) (sym (other e))
            (part_splits (item_unmatched xs [] us [] (rows_single u) o) (now_split row m k.sound w o k.complete)),
      )
  search_next {before} {all} all' row w (part_splits o h) (row_matches k m e) same other =
      let f : (s : Spot) → In s row.spots → PlacedAt L (n + length us) p t s = λ s i. no_member (In_along row.spots [] e i) in (
        rows_next row u m f,
        subst (λ (a : Bool). IsSearched L Next before a (Some (rows ++ row ∷ []))) (sym (same k))
            (part_splits (unmatched_before (just p ∷ []) (t ∷ []) o) (still_split row m f w o h)),
      )

  -- the search ends where an item has no row
  pub search_fails : {before all : Bool} (ys : List Slot) (vs : List Tree) → IsSearched L (record { slots = xs; terms = us; place = n }) before all (Some rows)
      → IsRowOf L (n + length us) p t all None → IsSearched L (record { slots = xs ++ just p ∷ ys; terms = us ++ t ∷ vs; place = n }) before all None
  search_fails {before} ys vs (part_matches w) (row_fails o f) =
      part_fails (item_unmatched xs ys us vs (rows_single u) o) (λ e r h. by_part e r (one_splits_of xs (just p ∷ ys) us (t ∷ vs) (first_single (just p ∷ ys) (t ∷ vs)) n r h))
    where
      here_none : before ≡ true → (r : Spot) → ItemsSplitAt L (n + length us) (items_of (just p ∷ ys)) (trees (t ∷ vs)) r → ⊥
      here_none e r (splits_here {s = q} h g j d) = f e q h
      here_none e r (splits_behind {c = c} m g j d) = o c m

      by_part : before ≡ true → (r : Spot) → OneSplits L n xs (just p ∷ ys) us (t ∷ vs) r → ⊥
      by_part e r (first_splits h m q) = next_matches ys vs o m
      by_part e r (other_splits {s = q} m h k) = here_none e q h
  search_fails ys vs (part_splits a w) (row_fails o f) =
      part_fails (item_unmatched xs ys us vs (rows_single u) o) (λ e r h. by_part r (one_splits_of xs (just p ∷ ys) us (t ∷ vs) (first_single (just p ∷ ys) (t ∷ vs)) n r h))
    where
      by_part : (r : Spot) → OneSplits L n xs (just p ∷ ys) us (t ∷ vs) r → ⊥
      by_part r (first_splits h m q) = next_matches ys vs o m
      by_part r (other_splits {c = c} m h k) = a c m

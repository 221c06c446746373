-- The row of a list pattern at a list, from those of its three parts.
use Rattle.std.proofs.Common.{◌≡◌, Bool, true, false, Some, None, List, [], ◌++◌, refl, sym, ◌∙◌, ap, subst}
use Rattle.rdx_term.specs.Tree.{Tree}
use Rattle.rdx_lang.specs.Bindings.{Binding}
use Rattle.rdx_lang.specs.Collecting.{HasExactly}
use Rattle.rdx_lang.specs.Listing.{IsListing}
use Rattle.rdx_lang.specs.Order.{binding_cmp}
use Rattle.rdx_lang.specs.Patterns.{Pattern, seq, Language}
use Rattle.rdx_lang.specs.PatternView.{Slot, items_of}
use Rattle.rdx_lang.specs.Rules.{Match}
use Rattle.rdx_bind.proofs.AskedRows.{has-none}
use Rattle.rdx_bind.proofs.Gathering.{exactly_listed}
use Rattle.rdx_bind.proofs.SpotRows.{AreMapRows, matches_are_maps, matches_append}
use Rattle.rdx_bind.proofs.ThreeParts.{listing_parts_of, first_unmatched, middle_unmatched, last_unmatched, found_fit, exactly_all_parts, exactly_one_part, first_fails, last_fails, middle_fails}
use Rattle.rdx_bind.specs.Columns.{HasAsked, has_matches, has_splits}
use Rattle.rdx_bind.specs.Combining.{JoinsAcross}
use Rattle.rdx_bind.specs.Ones.{empty_row}
use Rattle.rdx_bind.specs.PartRows.{HaveSpots, IsSearched, part_matches, part_splits, part_fails}
use Rattle.rdx_bind.specs.Parts.{Part, CannotFit, IsCut, Unmatched}
use Rattle.rdx_bind.specs.Rows.{SplitRow, SpotsAcross, all_matches, split_row_of}
use Rattle.rdx_bind.specs.Spots.{SplitsAt}
use Rattle.rdx_bind.specs.declared.rows.Row.{Row}
use Rattle.rdx_nodes.specs.Asked.{asked_where}
use Rattle.rdx_table.specs.Inside.Cuts.{IsFoundBehind}
use Rattle.rdx_table.specs.Inside.Looks.{language_of_look, aim_pattern, aim_tree, Meets}
use Rattle.rdx_table.specs.declared.look.Look.{Look}
use Rattle.rdx_table.specs.declared.task.Goal.{Goal}

-- the row has what is asked of the list pattern of these items
abbrev pub ListRow : Language → List Slot → Tree → Bool → SplitRow → Type 0
ListRow L slots t splits row = HasAsked (Match L (seq (items_of slots)) t) (SplitsAt L (seq (items_of slots)) t) (asked_where splits) row

-- so it has what the goal asks for
pub meets_list : (l : Look) (g : Goal) (row : Row) (slots : List Slot) → aim_pattern l g ≡ seq (items_of slots)
    → ListRow (language_of_look l) slots (aim_tree l g) g.splits (split_row_of row) → Meets l g row
meets_list l g row slots e h = subst (λ (p : Pattern).
    HasAsked (Match (language_of_look l) p (aim_tree l g)) (SplitsAt (language_of_look l) p (aim_tree l g)) (asked_where g.splits)
    (split_row_of row)) (sym e) h

-- where the items cannot fit there is nothing
pub list_cannot_fit : {L : Language} {slots : List Slot} {t : Tree} (splits : Bool) (row : SplitRow) → row ≡ empty_row → CannotFit slots t
    → ListRow L slots t splits row
list_cannot_fit {L} splits row e f = has-none (asked_where splits) (ap (λ (r : SplitRow). r.matches) e) (ap (λ (r : SplitRow). r.spots) e)
    (f.matches L) (f.splits L)

-- ---- what is found of a part

module _ {L : Language} where
  -- where a part fails its items do not match
  unmatched : {part : Part} {before all : Bool} → IsSearched L part before all None → Unmatched L part.slots part.terms
  unmatched (part_fails u f) = u

  -- where all match behind a part, all did before
  all_before : {part : Part} {before all : Bool} {rows : List SplitRow} → IsSearched L part before all (Some rows) → all ≡ true → before ≡ true
  all_before (part_matches f) e = e
  all_before (part_splits u h) e = absurd cc

module _ (L : Language) {slots : List Slot} {t : Tree} {x y z : Part} (cut : IsCut slots t x y z) where
  -- the first part fails
  pub first_part_fails : (splits : Bool) {a : Bool} (row : SplitRow) → row ≡ empty_row → IsSearched L x splits a None → ListRow L slots t splits row
  first_part_fails true row e s =
      has_splits (exactly_listed (first_unmatched L cut (unmatched s) (ap (λ (r : SplitRow). r.matches) e)))
      (first_fails L cut s (ap (λ (r : SplitRow). r.spots) e))
  first_part_fails false row e s =
      has_matches (exactly_listed (first_unmatched L cut (unmatched s) (ap (λ (r : SplitRow). r.matches) e))) (ap (λ (r : SplitRow). r.spots) e)

  -- the last does
  pub last_part_fails : (splits : Bool) {a b : Bool} (firsts : List SplitRow) (row : SplitRow) → row ≡ empty_row
      → IsSearched L x splits a (Some firsts)
      → IsSearched L z a b None → ListRow L slots t splits row
  last_part_fails true firsts row e f s =
      has_splits (exactly_listed (last_unmatched L cut (unmatched s) (ap (λ (r : SplitRow). r.matches) e)))
      (last_fails L cut f s (ap (λ (r : SplitRow). r.spots) e))
  last_part_fails false firsts row e f s =
      has_matches (exactly_listed (last_unmatched L cut (unmatched s) (ap (λ (r : SplitRow). r.matches) e))) (ap (λ (r : SplitRow). r.spots) e)

  -- the middle does
  pub middle_part_fails : (splits : Bool) {a b : Bool} (firsts lasts : List SplitRow) (row : SplitRow) → row ≡ empty_row
      → IsSearched L x splits a (Some firsts)
      → IsSearched L z a b (Some lasts) → IsFoundBehind L y b None → ListRow L slots t splits row
  middle_part_fails true firsts lasts row e f h s =
      has_splits (exactly_listed (middle_unmatched L cut (unmatched s.searched) (ap (λ (r : SplitRow). r.matches) e)))
      (middle_fails L cut f h s.searched (ap (λ (r : SplitRow). r.spots) e))
  middle_part_fails false firsts lasts row e f h s =
      has_matches (exactly_listed (middle_unmatched L cut (unmatched s.searched) (ap (λ (r : SplitRow). r.matches) e)))
      (ap (λ (r : SplitRow). r.spots) e)

  module _ {splits a b : Bool} (firsts middles lasts : List SplitRow) (v : AreMapRows firsts) (w : AreMapRows middles)
      (f : IsSearched L x splits a (Some firsts))
      (h : IsSearched L z a b (Some lasts)) (k : IsFoundBehind L y b (Some middles)) where
    -- all have rows: what they bind
    parts_bind : {bs : List Binding} → IsListing binding_cmp bs (JoinsAcross (all_matches (firsts ++ (middles ++ lasts))))
        → HasExactly bs (Match L (seq (items_of slots)) t)
    parts_bind {bs} l =
        let e : all_matches (firsts ++ (middles ++ lasts)) ≡ all_matches firsts ++ (all_matches middles ++ all_matches lasts) =
        matches_append firsts (middles ++ lasts) ∙ ap (λ ms. all_matches firsts ++ ms) (matches_append middles lasts) in
        exactly_listed (listing_parts_of L cut (all_matches firsts) (all_matches middles) (all_matches lasts) (matches_are_maps firsts v)
        (matches_are_maps middles w)
        (found_fit f).binds (found_fit k.searched).binds (found_fit h).binds
        (subst (λ (ms : List (List Binding)). IsListing binding_cmp bs (JoinsAcross ms)) e l))

    -- and where they split
    parts_split : {found : List _} → splits ≡ true → (a ≡ true → HaveSpots L x firsts) → (b ≡ true → HaveSpots L z lasts)
        → HasExactly found (SpotsAcross (firsts ++ (middles ++ lasts))) → HasExactly found (SplitsAt L (seq (items_of slots)) t)
    parts_split {found} s m n q = by_all k.all refl
      where
        f' : IsSearched L x true a (Some firsts)
        f' = subst (λ (c : Bool). IsSearched L x c a (Some firsts)) s f

        by_all : (c : Bool) → k.all ≡ c → HasExactly found (SplitsAt L (seq (items_of slots)) t)
        by_all true e =
            let i : b ≡ true = all_before k.searched e in
            exactly_all_parts L cut firsts middles lasts v w (record { fit = found_fit f; spots = m (all_before h i) })
            (record { fit = found_fit k.searched; spots = k.spots middles refl e }) (record { fit = found_fit h; spots = n i }) q
        by_all false e =
            exactly_one_part L cut firsts middles lasts v w f' h (subst (λ (c : Bool). IsSearched L y b c (Some middles)) e k.searched) q

  -- all have rows
  pub parts_have : (splits : Bool) {a b : Bool} (firsts middles lasts : List SplitRow) (row : SplitRow) → AreMapRows firsts → AreMapRows middles
      → IsSearched L x splits a (Some firsts) → (a ≡ true → HaveSpots L x firsts) → IsSearched L z a b (Some lasts) → (b ≡ true → HaveSpots L z lasts)
      → IsFoundBehind L y b (Some middles) → IsListing binding_cmp row.matches (JoinsAcross (all_matches (firsts ++ (middles ++ lasts))))
      → (splits ≡ true → HasExactly row.spots (SpotsAcross (firsts ++ (middles ++ lasts)))) → (splits ≡ false → row.spots ≡ [])
      → ListRow L slots t splits row
  parts_have true firsts middles lasts row v w f m h n k l s o =
      has_splits (parts_bind firsts middles lasts v w f h k l) (parts_split firsts middles lasts v w f h k refl m n (s refl))
  parts_have false firsts middles lasts row v w f m h n k l s o = has_matches (parts_bind firsts middles lasts v w f h k l) (o refl)

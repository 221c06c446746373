-- The row of the items from the first repetition of a list pattern to the last.
use Rattle.std.proofs.Common.{◌≡◌, Bool, true, false, Some, None, List, [], ◌∷◌, length, refl, sym, ◌∙◌, subst}
use Rattle.rdx_term.specs.Tree.{trees}
use Rattle.rdx_lang.proofs.Collecting.{In_along, no_member}
use Rattle.rdx_lang.specs.Bindings.{Binding}
use Rattle.rdx_lang.specs.Collecting.{HasExactly}
use Rattle.rdx_lang.specs.Members.{In}
use Rattle.rdx_lang.specs.Patterns.{Language}
use Rattle.rdx_lang.specs.PatternView.{Slot, items_of}
use Rattle.rdx_lang.specs.Rules.{MatchItems}
use Rattle.rdx_bind.proofs.AcrossRows.{AreMaps, one_across, across_one}
use Rattle.rdx_bind.proofs.Prefixes.{none_bind, not_both}
use Rattle.rdx_bind.proofs.SpotRows.{IsMapRow, one_spot_across, across_one_spot}
use Rattle.rdx_bind.specs.Columns.{HasAsked, has_matches, has_splits}
use Rattle.rdx_bind.specs.PartRows.{PartSplits, RowsFit, HaveSpots, IsSearched, part_matches, part_splits, part_fails}
use Rattle.rdx_bind.specs.Parts.{Part, BindAcross}
use Rattle.rdx_bind.specs.Rows.{SplitRow}
use Rattle.rdx_bind.specs.Spots.{Spot, ItemsSplitAt, spots_of}
use Rattle.rdx_bind.specs.declared.asks.Ask.{Ask}
use Rattle.rdx_bind.specs.declared.asks.Ask.TheVariants.{Matches, Splits}
use Rattle.rdx_bind.specs.declared.spots.Spot as code_spot

-- what is asked of them, where all items before match, or one does not
abbrev pub asked_where : Bool → Ask
asked_where true = Splits
asked_where false = Matches

-- where the row has all bindings, they come across it
pub row_binds : {L : Language} (part : Part) (row : List Binding) → AreMaps row → HasExactly row (MatchItems L (items_of part.slots) (trees part.terms))
    → BindAcross L part.slots part.terms (row ∷ [])
row_binds part row w h b = (λ m. one_across row b w (h.complete b m), λ a. h.sound b (across_one row b w a))

-- where there are no items there is no row
pub no_row_binds : {L : Language} (part : Part) (rows : List (List Binding)) → part.slots ≡ [] → part.terms ≡ [] → rows ≡ [] → BindAcross L part.slots part.terms rows
no_row_binds {L} part rows e f g = subst (λ (s : List Slot). BindAcross L s part.terms rows) (sym e) (subst (λ ts. BindAcross L [] ts rows) (sym f) (none_bind rows g))

-- a list with a first member is not empty
no_first : (b : Binding) (bs : List Binding) → b ∷ bs ≡ [] → ⊥
no_first b bs e = absurd cc

-- spots that are not empty stand for some
pub some_spots : (ss : List code_spot.Spot) → (length ss ≡ 0 → ⊥) → spots_of ss ≡ [] → ⊥
some_spots [] n e = n refl
some_spots (s ∷ ss) n e = absurd cc

module _ (L : Language) (part : Part) (row : SplitRow) where
  -- the row has what was asked
  abbrev Asked : Bool → Type 0
  Asked before = HasAsked (MatchItems L (items_of part.slots) (trees part.terms)) (PartSplits L part) (asked_where before) row

  -- so it has all bindings
  pub asked_matches : (before : Bool) → Asked before → HasExactly row.matches (MatchItems L (items_of part.slots) (trees part.terms))
  asked_matches true (has_splits m s) = m
  asked_matches false (has_matches m e) = m

  -- and no spots but those of the items
  asked_sound : (before : Bool) → Asked before → (r : Spot) → In r row.spots → PartSplits L part r
  asked_sound true (has_splits m s) r i = s.sound r i
  asked_sound false (has_matches m e) r i = no_member (In_along row.spots [] e i)

  module _ (w : IsMapRow row) where
    -- it is the row of the part
    asked_fits : (before : Bool) → Asked before → RowsFit L part (row ∷ [])
    asked_fits before h = record {
      binds = row_binds part row.matches w.matches (asked_matches before h);
      sound = λ r a. asked_sound before h r (across_one_spot row r w.spots a);
    }

    -- where all before match it has all spots
    asked_spots : Asked true → HaveSpots L part (row ∷ [])
    asked_spots (has_splits m s) r h = one_spot_across row r w.spots (s.complete r h)

    -- where it alone does not match it has spots
    alone : (before : Bool) → Asked before → row.matches ≡ [] → (row.matches ≡ [] → row.spots ≡ [] → ⊥) → IsSearched L part before false (Some (row ∷ []))
    alone true h e n = part_splits (λ b k. no_member (In_along row.matches [] e ((asked_matches true h).complete b k))) (record { fit = asked_fits true h; spots = asked_spots h })
    alone false (has_matches m g) e n = absurd (n e g)

    -- what the search has found
    pub middle_found : (before all : Bool) → Asked before → (row.matches ≡ [] → row.spots ≡ [] → ⊥) → ((row.matches ≡ [] → ⊥) → all ≡ before) → (row.matches ≡ [] → all ≡ false)
        → IsSearched L part before all (Some (row ∷ []))
    middle_found before all h n same other = by_matches row.matches refl
      where
        by_matches : (bs : List Binding) → row.matches ≡ bs → IsSearched L part before all (Some (row ∷ []))
        by_matches [] e = subst (λ (a : Bool). IsSearched L part before a (Some (row ∷ []))) (sym (other e)) (alone before h e n)
        by_matches (b ∷ bs) e = subst (λ (a : Bool). IsSearched L part before a (Some (row ∷ []))) (sym (same (λ f. absurd (no_first b bs (sym e ∙ f))))) (part_matches (asked_fits before h))

    -- so where all before match it has all spots
    pub middle_spots : (before all : Bool) → Asked before → ((row.matches ≡ [] → ⊥) → all ≡ before) → (row.matches ≡ [] → all ≡ false) → all ≡ true → HaveSpots L part (row ∷ [])
    middle_spots before all h same other e = by_matches row.matches refl
      where
        by_matches : (bs : List Binding) → row.matches ≡ bs → HaveSpots L part (row ∷ [])
        by_matches [] f = absurd (not_both all e (other f))
        by_matches (b ∷ bs) f = asked_spots (subst Asked (sym (same (λ g. absurd (no_first b bs (sym f ∙ g)))) ∙ e) h)

  -- where it has neither, nothing is found
  pub middle_none : (before all : Bool) → Asked before → row.matches ≡ [] → row.spots ≡ [] → IsSearched L part before all None
  middle_none true all (has_splits m s) e f =
      part_fails (λ b k. no_member (In_along row.matches [] e (m.complete b k))) (λ z r k. no_member (In_along row.spots [] f (s.complete r k)))
  middle_none false all (has_matches m g) e f = part_fails (λ b k. no_member (In_along row.matches [] e (m.complete b k))) (λ z r k. absurd cc)

-- ---- where there are no items

-- no item splits
none_split : {L : Language} (part : Part) (r : Spot) → part.slots ≡ [] → PartSplits L part r → ⊥
none_split {L} part r e h = empty_split (subst (λ (s : List Slot). ItemsSplitAt L part.place (items_of s) (trees part.terms) r) e h)
  where
    empty_split : ItemsSplitAt L part.place (items_of []) (trees part.terms) r → ⊥
    empty_split k = elim k [ ]

-- there is no row
pub no_middle : {L : Language} (part : Part) (all : Bool) (rows : List SplitRow) → part.slots ≡ [] → part.terms ≡ [] → rows ≡ [] → IsSearched L part all all (Some rows)
no_middle {L} part all rows e f g = subst (λ (rs : List SplitRow). IsSearched L part all all (Some rs)) (sym g)
    (part_matches (record { binds = no_row_binds part [] e f refl; sound = λ r a. elim a [ ] }))

-- and no spot
pub no_middle_spots : {L : Language} (part : Part) (rows : List SplitRow) → part.slots ≡ [] → HaveSpots L part rows
no_middle_spots part rows e r h = absurd (none_split part r e h)

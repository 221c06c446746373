-- The row of the entries with repetitions, behind the rows of the other parts.
use Rattle.std.proofs.Common.{◌≡◌, ◌&&◌, Bool, true, false, Some, None, List, [], ◌∷◌, refl, subst}
use Rattle.std.specs.Prelude.{not}
use Rattle.rdx_term.specs.Tree.{trees}
use Rattle.rdx_lang.specs.Bindings.{Binding}
use Rattle.rdx_lang.specs.Patterns.{Language}
use Rattle.rdx_lang.specs.PatternView.{items_of}
use Rattle.rdx_lang.specs.Rules.{MatchItems}
use Rattle.rdx_bind.proofs.MiddleRow as middle
use Rattle.rdx_bind.proofs.MiddleRow.{middle_found, middle_spots, middle_none, no_middle, no_middle_spots}
use Rattle.rdx_bind.proofs.SpotRows.{IsMapRow}
use Rattle.rdx_bind.specs.Columns.{HasAsked, has_some}
use Rattle.rdx_bind.specs.PartRows.{PartSplits, HaveSpots}
use Rattle.rdx_bind.specs.Parts.{Part}
use Rattle.rdx_bind.specs.Rows.{SplitRow}
use Rattle.rdx_bind.specs.Spots.{Spot}
use Rattle.rdx_nodes.specs.Asked.{asked_where}
use Rattle.rdx_table.specs.Inside.Cuts.{lacks_all, IsFoundBehind}

-- ---- what a row has

-- a list with a member is not empty
pub some_member : {A : Type 0} (xs : List A) → has_some xs ≡ true → xs ≡ [] → ⊥
some_member [] e f = absurd cc
some_member (x ∷ xs) e f = absurd cc

-- a row that has nothing has no matches, and no spots
pub no_matches : (row : SplitRow) → lacks_all row ≡ true → row.matches ≡ []
no_matches row e = by_matches row.matches row.spots e
  where
    by_matches : (bs : List Binding) (ss : List Spot) → (not (has_some bs) && not (has_some ss)) ≡ true → bs ≡ []
    by_matches [] ss e = refl
    by_matches (b ∷ bs) ss e = absurd cc

pub no_spots : (row : SplitRow) → lacks_all row ≡ true → row.spots ≡ []
no_spots row e = by_spots row.matches row.spots e
  where
    by_spots : (bs : List Binding) (ss : List Spot) → (not (has_some bs) && not (has_some ss)) ≡ true → ss ≡ []
    by_spots bs [] e = refl
    by_spots [] (s ∷ ss) e = absurd cc
    by_spots (b ∷ bs) (s ∷ ss) e = absurd cc

-- one that has something is not without both
pub some_of_row : (row : SplitRow) → lacks_all row ≡ false → row.matches ≡ [] → row.spots ≡ [] → ⊥
some_of_row row e = by_both row.matches row.spots e
  where
    by_both : (bs : List Binding) (ss : List Spot) → (not (has_some bs) && not (has_some ss)) ≡ false → bs ≡ [] → ss ≡ [] → ⊥
    by_both [] [] e f g = absurd cc
    by_both [] (s ∷ ss) e f g = absurd cc
    by_both (b ∷ bs) ss e f g = absurd cc

-- all still match where the row does
pub all_stay : {A : Type 0} (xs : List A) (all : Bool) → (xs ≡ [] → ⊥) → (all && has_some xs) ≡ all
all_stay [] all n = absurd (n refl)
all_stay (x ∷ xs) true n = refl
all_stay (x ∷ xs) false n = refl

-- and not all do where it does not
pub all_end : {A : Type 0} (xs : List A) (all : Bool) → xs ≡ [] → (all && has_some xs) ≡ false
all_end [] true e = refl
all_end [] false e = refl
all_end (x ∷ xs) all e = absurd cc

-- ---- what is found

module _ (L : Language) (part : Part) (before : Bool) where
  -- the row has what is asked of the part
  abbrev pub HasPart : SplitRow → Type 0
  HasPart row = HasAsked (MatchItems L (items_of part.slots) (trees part.terms)) (PartSplits L part) (asked_where before) row

  same_ask : (b : Bool) → asked_where b ≡ middle.asked_where b
  same_ask true = refl
  same_ask false = refl

  as_middle : (row : SplitRow) → HasPart row → HasAsked (MatchItems L (items_of part.slots) (trees part.terms)) (PartSplits L part)
      (middle.asked_where before) row
  as_middle row h = subst (λ a. HasAsked (MatchItems L (items_of part.slots) (trees part.terms)) (PartSplits L part) a row) (same_ask before) h

  -- there are no items
  pub behind_no_items : (rows : List SplitRow) → part.slots ≡ [] → part.terms ≡ [] → rows ≡ [] → IsFoundBehind L part before (Some rows)
  behind_no_items rows e f g = record {
    all = before;
    searched = no_middle part before rows e f g;
    spots = λ others s a. no_middle_spots part others e;
  }

  -- they neither match nor split
  pub behind_none : (row : SplitRow) → HasPart row → lacks_all row ≡ true → IsFoundBehind L part before None
  behind_none row h e = record {
    all = before;
    searched = middle_none L part row before before (as_middle row h) (no_matches row e) (no_spots row e);
    spots = λ rows s a. absurd cc;
  }

  -- there is a row
  pub behind_row : (row : SplitRow) → IsMapRow row → HasPart row → lacks_all row ≡ false → IsFoundBehind L part before (Some (row ∷ []))
  behind_row row w h e = record {
    all = all;
    searched = middle_found L part row w before all (as_middle row h) (some_of_row row e) (all_stay row.matches before) (all_end row.matches before);
    spots = λ rows s a. subst (λ (rs : List SplitRow). HaveSpots L part rs) (one rows s)
        (middle_spots L part row w before all (as_middle row h) (all_stay row.matches before) (all_end row.matches before) a);
  }
    where
      all : Bool
      all = before && has_some row.matches

      one : (rows : List SplitRow) → Some (row ∷ []) ≡ Some rows → row ∷ [] ≡ rows
      one rows s = cc

-- The rows of the parts of a list of which one item is to be split while all others match.
use Rattle.std.specs.Prelude.{◌≡◌, ℕ, suc, Bool, true, false, List, [], ◌∷◌, Option, Some, None, Vec}
use Rattle.std.specs.declared.alloc.Global.{Global}
use Rattle.rdx_term.specs.Tree.{Tree, trees}
use Rattle.rdx_lang.specs.Collecting.{HasExactly}
use Rattle.rdx_lang.specs.Members.{In}
use Rattle.rdx_lang.specs.Patterns.{Pattern, Language}
use Rattle.rdx_lang.specs.PatternView.{Slot, just, items_of}
use Rattle.rdx_lang.specs.Rules.{Match}
use Rattle.rdx_bind.specs.Parts.{Part, Unmatched, BindAcross}
use Rattle.rdx_bind.specs.Rows.{SplitRow, SpotsAcross, all_matches, split_rows_of}
use Rattle.rdx_bind.specs.Spots.{Spot, PlacedAt, ItemsSplitAt}
use Rattle.rdx_bind.specs.declared.rows.Row as code

-- a row for each of these items, which are one term's each, the first at place n: all of its matches, and no other spots than its own
pub data AreRows (L : Language) : ℕ → List Slot → List Tree → List SplitRow → Type 0 where
  no_rows : {n : ℕ} → AreRows L n [] [] []
  more_rows : {n : ℕ} {p : Pattern} {slots : List Slot} {t : Tree} {ts : List Tree} {row : SplitRow} {rows : List SplitRow} →
      HasExactly row.matches (Match L p t) → ((s : Spot) → In s row.spots → PlacedAt L n p t s) → AreRows L (suc n) slots ts rows
      → AreRows L n (just p ∷ slots) (t ∷ ts) (row ∷ rows)

-- the items of a part split their terms there
abbrev pub PartSplits : Language → Part → Spot → Type 0
PartSplits L part r = ItemsSplitAt L part.place (items_of part.slots) (trees part.terms) r

-- the rows are those of the part: what comes across them is what its items bind, and where they split, these do
pub record RowsFit (L : Language) (part : Part) (rows : List SplitRow) : Type 0 where
  pub binds : BindAcross L part.slots part.terms (all_matches rows)
  pub sound : (r : Spot) → SpotsAcross rows r → PartSplits L part r

-- the rows have all spots of the part
abbrev pub HaveSpots : Language → Part → List SplitRow → Type 0
HaveSpots L part rows = (r : Spot) → PartSplits L part r → SpotsAcross rows r

-- both
pub record HaveAll (L : Language) (part : Part) (rows : List SplitRow) : Type 0 where
  pub fit : RowsFit L part rows
  pub spots : HaveSpots L part rows

-- what is found of a part, where all parts before it match or one does not, and then where all match or one does not: its rows, which have all
-- spots where its items do not match; no rows where these can't match, nor be the ones of which one is split
pub data IsSearched (L : Language) (part : Part) : Bool → Bool → Option (List SplitRow) → Type 0 where
  part_matches : {all : Bool} {rows : List SplitRow} → RowsFit L part rows → IsSearched L part all all (Some rows)
  part_splits : {rows : List SplitRow} → Unmatched L part.slots part.terms → HaveAll L part rows → IsSearched L part true false (Some rows)
  part_fails : {before all : Bool} → Unmatched L part.slots part.terms → (before ≡ true → (r : Spot) → ¬ PartSplits L part r) → IsSearched L part before all None

-- the rows that rows of the code stand for, if there are some
abbrev pub found_split_rows : Option (Vec code.Row Global) → Option (List SplitRow)
found_split_rows None = None
found_split_rows (Some rows) = Some (split_rows_of rows.items)

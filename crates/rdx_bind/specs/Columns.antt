-- Items with repetitions, from the last to the first: for each place of the terms, what the items from one on bind and split from there on.
-- Only what is asked of a place is worked out: nothing, what is bound where all match, or the spots besides.
use Rattle.std.specs.Prelude.{◌≡◌, ℕ, suc, Bool, true, false, List, [], ◌∷◌, if◌then◌else◌}
use Rattle.rdx_term.specs.Tree.{Tree, Trees, cons}
use Rattle.rdx_term.specs.Tree.{nil as no_trees}
use Rattle.rdx_lang.specs.Bindings.{Binding}
use Rattle.rdx_lang.specs.Collecting.{HasExactly}
use Rattle.rdx_lang.specs.Patterns.{Pattern, Items, Language}
use Rattle.rdx_lang.specs.Rules.{Match, MatchItems}
use Rattle.rdx_bind.specs.Rows.{SplitRow}
use Rattle.rdx_bind.specs.Spots.{Spot, PlacedAt, ItemsSplitAt}
use Rattle.rdx_bind.specs.declared.asks.Ask.{Ask}
use Rattle.rdx_bind.specs.declared.asks.Ask.TheVariants.{Nothing, Matches, Splits}

-- the row has what is asked, and nothing else: the bindings of which M holds, and the spots of which S does
pub data HasAsked (M : Binding → Type 0) (S : Spot → Type 0) : Ask → SplitRow → Type 0 where
  has_nothing : {row : SplitRow} → row.matches ≡ [] → row.spots ≡ [] → HasAsked M S Nothing row
  has_matches : {row : SplitRow} → HasExactly row.matches M → row.spots ≡ [] → HasAsked M S Matches row
  has_splits : {row : SplitRow} → HasExactly row.matches M → HasExactly row.spots S → HasAsked M S Splits row

-- the cells of p: for each of the terms, the first of which is at place n of the list, what p binds and where it splits it, as it is asked
pub data AreCells (L : Language) (p : Pattern) : ℕ → Trees → List Ask → List SplitRow → Type 0 where
  cells_end : {n : ℕ} {a : Ask} → AreCells L p n no_trees (a ∷ []) []
  cells_more : {n : ℕ} {t : Tree} {ts : Trees} {a : Ask} {asks : List Ask} {cell : SplitRow} {cells : List SplitRow} →
      HasAsked (Match L p t) (PlacedAt L n p t) a cell → AreCells L p (suc n) ts asks cells
      → AreCells L p n (cons t ts) (a ∷ asks) (cell ∷ cells)

-- the column of ps: for each of the places, the first of which is n, and for the place behind the last, what ps bind and split from there on,
-- as it is asked
pub data IsColumn (L : Language) (ps : Items) : ℕ → Trees → List Ask → List SplitRow → Type 0 where
  column_end : {n : ℕ} {a : Ask} {row : SplitRow} →
      HasAsked (MatchItems L ps no_trees) (ItemsSplitAt L n ps no_trees) a row → IsColumn L ps n no_trees (a ∷ []) (row ∷ [])
  column_more : {n : ℕ} {t : Tree} {ts : Trees} {a : Ask} {asks : List Ask} {row : SplitRow} {rows : List SplitRow} →
      HasAsked (MatchItems L ps (cons t ts)) (ItemsSplitAt L n ps (cons t ts)) a row → IsColumn L ps (suc n) ts asks rows
      → IsColumn L ps n (cons t ts) (a ∷ asks) (row ∷ rows)

-- ---- what is asked further on

-- the list has a member
abbrev pub has_some : {A : Type 0} → List A → Bool
has_some [] = false
has_some (x ∷ xs) = true

-- what is asked behind a cell of which this was asked: the same where the term matches; where it only splits, no other may
abbrev pub ask_behind : Ask → SplitRow → Ask
ask_behind Nothing cell = Nothing
ask_behind Matches cell = if has_some cell.matches then Matches else Nothing
ask_behind Splits cell = if has_some cell.matches then Splits else if has_some cell.spots then Matches else Nothing

-- the greater of two: the one that asks more
abbrev pub both_asked : Ask → Ask → Ask
both_asked Nothing b = b
both_asked Matches Nothing = Matches
both_asked Matches Matches = Matches
both_asked Matches Splits = Splits
both_asked Splits b = Splits

-- behind one item: one place further
abbrev pub asks_behind : List Ask → List SplitRow → List Ask
asks_behind [] cells = []
asks_behind (a ∷ asks) [] = []
asks_behind (a ∷ asks) (cell ∷ cells) = ask_behind a cell ∷ asks_behind asks cells

-- in a repetition: at each place what was asked there, and what comes from the place before it
abbrev pub carried : Ask → List Ask → List SplitRow → List Ask
carried before [] cells = []
carried before (a ∷ asks) [] = both_asked before a ∷ []
carried before (a ∷ asks) (cell ∷ cells) = both_asked before a ∷ carried (ask_behind (both_asked before a) cell) asks cells

-- One item over rows alone, and none: the cells of its pattern, one for each place, and the rows of the items behind it, one for each place
-- and one for the place behind the last.
use Rattle.std.specs.Prelude.{◌≡◌, ℕ, zero, suc, Bool, true, false, List, [], ◌∷◌, ◌++◌, ◌⊎◌}
use Rattle.rdx_lang.specs.Bindings.{Binding, no_names}
use Rattle.rdx_lang.specs.Collecting.{Combined}
use Rattle.rdx_bind.specs.Columns.{HasAsked}
use Rattle.rdx_bind.specs.Combining.{Joined}
use Rattle.rdx_bind.specs.Rows.{SplitRow, JoinedSpot}
use Rattle.rdx_bind.specs.Spots.{Spot}
use Rattle.rdx_bind.specs.declared.asks.Ask.{Ask}
use Rattle.rdx_bind.specs.declared.asks.Ask.TheVariants.{Nothing, Matches, Splits}

-- r is a spot of one of the two rows, and binds besides what the other binds where it matches
abbrev pub SplitsEither : SplitRow → SplitRow → Spot → Type 0
SplitsEither a b r = Combined JoinedSpot a.spots b.matches r ⊎ Combined JoinedSpot b.spots a.matches r

-- at each place, the row has what is asked of its cell and the row behind it together; behind the last term the item has no cell
pub data AreOnes : List Ask → List SplitRow → List SplitRow → List SplitRow → Type 0 where
  ones_end : {a : Ask} {next row : SplitRow} → row.matches ≡ [] → row.spots ≡ [] → AreOnes (a ∷ []) [] (next ∷ []) (row ∷ [])
  ones_more : {a : Ask} {asks : List Ask} {cell here next row : SplitRow} {cells nexts rows : List SplitRow} →
      HasAsked (Joined cell.matches next.matches) (SplitsEither cell next) a row
      → AreOnes asks cells (next ∷ nexts) rows → AreOnes (a ∷ asks) (cell ∷ cells) (here ∷ next ∷ nexts) (row ∷ rows)

-- ---- where nothing is asked, or no item is left

-- a row that has nothing
abbrev pub empty_row : SplitRow
empty_row = record { matches = []; spots = [] }

-- so many rows that have nothing
abbrev pub empty_rows : ℕ → List SplitRow
empty_rows zero = []
empty_rows (suc n) = empty_row ∷ empty_rows n

-- nothing is asked
abbrev pub is_nothing : Ask → Bool
is_nothing Nothing = true
is_nothing Matches = false
is_nothing Splits = false

-- nothing is asked of so many places
abbrev pub nothings : ℕ → List Ask
nothings zero = []
nothings (suc n) = Nothing ∷ nothings n

-- no items match where no term is left, and bind nothing; they split nothing
abbrev pub HasEnd : Ask → SplitRow → Type 0
HasEnd a row = HasAsked (λ (b : Binding). b ≡ no_names) (λ (s : Spot). ⊥) a row

-- the column of no items: behind n terms, where this is asked, the last row
pub record IsEnd (n : ℕ) (a : Ask) (rows : List SplitRow) : Type 0 where
  pub last : SplitRow
  pub same : rows ≡ empty_rows n ++ last ∷ []
  pub has : HasEnd a last

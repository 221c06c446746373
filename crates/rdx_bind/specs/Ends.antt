-- Where the runs of a repetition lead. A place is told by how many cells there are from it on.
use Rattle.std.specs.Prelude.{◌≡◌, ℕ, suc, ◌+◌, ◌-◌, Option, List, [], ◌∷◌, ◌++◌, length, take, drop, get_or}
use Rattle.rdx_lang.specs.Bindings.{Binding}
use Rattle.rdx_lang.specs.Collecting.{Arises, HasExactly}
use Rattle.rdx_lang.specs.Join.{IsJoin}
use Rattle.rdx_bind.specs.Choices.{RepeatsWith}
use Rattle.rdx_bind.specs.Rows.{SplitRow, all_matches}
use Rattle.rdx_bind.specs.Spots.{Spot}

-- something matches there
abbrev pub HasMatches : SplitRow → Type 0
HasMatches row = ¬ (row.matches ≡ [])

-- something is split there
abbrev pub HasSpots : SplitRow → Type 0
HasSpots row = ¬ (row.spots ≡ [])

-- all cells before the place match, and P holds of what comes from there on
pub data IsReached (P : SplitRow → Type 0) : List SplitRow → List SplitRow → ℕ → Type 0 where
  reached_here : {cells nexts : List SplitRow} {next : SplitRow} {k : ℕ} → P next → k ≡ length cells → IsReached P cells (next ∷ nexts) k
  reached_behind : {cell next : SplitRow} {cells nexts : List SplitRow} {k : ℕ} →
      HasMatches cell → IsReached P cells nexts k → IsReached P (cell ∷ cells) (next ∷ nexts) k

-- the cell at the first place is split, all other cells before the second match, and so does what comes from there on
pub data IsSplitEnd : List SplitRow → List SplitRow → ℕ × ℕ → Type 0 where
  split_end_here : {cell next : SplitRow} {cells nexts : List SplitRow} {p : ℕ × ℕ} →
      HasSpots cell → p.0 ≡ suc (length cells) → IsReached HasMatches cells nexts p.1 → IsSplitEnd (cell ∷ cells) (next ∷ nexts) p
  split_end_behind : {cell next : SplitRow} {cells nexts : List SplitRow} {p : ℕ × ℕ} →
      HasMatches cell → IsSplitEnd cells nexts p → IsSplitEnd (cell ∷ cells) (next ∷ nexts) p

-- these are the places to which the runs from the first place on lead
pub record AreWays (cells nexts : List SplitRow) (es : List ℕ) (ps : List (ℕ × ℕ)) (ks : List ℕ) : Type 0 where
  pub ends : HasExactly es (IsReached HasMatches cells nexts)
  pub split_ends : HasExactly ps (IsSplitEnd cells nexts)
  pub split_nexts : HasExactly ks (IsReached HasSpots cells nexts)

-- ---- what is bound there

-- a row of nothing, for the places where there is none
abbrev pub no_row : SplitRow
no_row = record { matches = []; spots = [] }

-- the row with so many before it
abbrev pub row_at : ℕ → List SplitRow → SplitRow
row_at n rows = get_or rows n no_row

-- the first so many cells match, and what comes from there on does
abbrev pub MatchesUpTo : List (List ℕ) → Option (List ℕ) → List SplitRow → List SplitRow → ℕ → Binding → Type 0
MatchesUpTo xs x cells nexts n b = RepeatsWith xs x (all_matches (take n cells)) (row_at n nexts).matches b

-- what the cells bind, and between them this alone
abbrev pub rows_around : List SplitRow → Binding → List SplitRow → List (List Binding)
rows_around before c between = all_matches before ++ (c ∷ []) ∷ all_matches between

-- what the first n cells bind, and the one behind the first m of them this alone
abbrev pub rows_around_at : List SplitRow → ℕ → ℕ → Binding → List (List Binding)
rows_around_at cells m n c = rows_around (take m cells) c (take (n - (m + 1)) (drop (m + 1) cells))

-- r is along the path of s, and binds the join of c and d
pub record IsSpotWith (s : Spot) (c d : Binding) (r : Spot) : Type 0 where
  pub path : r.path ≡ s.path
  pub joined : IsJoin c d r.binding

-- the cells before match, one is split at s, those between match, and what comes behind them does
pub record SplitsCell (xs : List (List ℕ)) (x : Option (List ℕ)) (before between : List SplitRow) (others : List Binding) (s r : Spot) : Type 0 where
  pub path : r.path ≡ s.path
  pub repeated : RepeatsWith xs x (rows_around before s.binding between) others r.binding

-- the cells before match, and what comes behind them is split at s
pub record SplitsNext (xs : List (List ℕ)) (x : Option (List ℕ)) (before : List SplitRow) (s r : Spot) : Type 0 where
  pub path : r.path ≡ s.path
  pub repeated : RepeatsWith xs x (all_matches before) (s.binding ∷ []) r.binding

-- the cell behind the first m is split, and all others of the first n match, with what comes from there on
abbrev pub SplitsCellAt : List (List ℕ) → Option (List ℕ) → List SplitRow → List SplitRow → ℕ → ℕ → Spot → Type 0
SplitsCellAt xs x cells nexts m n r =
    Arises (SplitsCell xs x (take m cells) (take (n - (m + 1)) (drop (m + 1) cells)) (row_at n nexts).matches) (row_at m cells).spots r

-- the first so many cells match, and what comes from there on is split
abbrev pub SplitsNextAt : List (List ℕ) → Option (List ℕ) → List SplitRow → List SplitRow → ℕ → Spot → Type 0
SplitsNextAt xs x cells nexts n r = Arises (SplitsNext xs x (take n cells)) (row_at n nexts).spots r

-- the same for places
abbrev pub MatchesTo : List (List ℕ) → Option (List ℕ) → List SplitRow → List SplitRow → ℕ → Binding → Type 0
MatchesTo xs x cells nexts k b = MatchesUpTo xs x cells nexts (length cells - k) b

abbrev pub SplitsCellTo : List (List ℕ) → Option (List ℕ) → List SplitRow → List SplitRow → ℕ × ℕ → Spot → Type 0
SplitsCellTo xs x cells nexts p r = SplitsCellAt xs x cells nexts (length cells - p.0) (length cells - p.1) r

abbrev pub SplitsNextTo : List (List ℕ) → Option (List ℕ) → List SplitRow → List SplitRow → ℕ → Spot → Type 0
SplitsNextTo xs x cells nexts k r = SplitsNextAt xs x cells nexts (length cells - k) r

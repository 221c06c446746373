-- A repetition over rows alone: the cells of its pattern, one for each place, and the rows of the items behind it, one for each place and one
-- for the place behind the last.
use Rattle.std.specs.Prelude.{◌≡◌, ℕ, Bool, IsTrue, List, [], ◌∷◌, Option}
use Rattle.rdx_lang.specs.Bindings.{Binding, bound_names}
use Rattle.rdx_lang.specs.Collections.{IsRepetition}
use Rattle.rdx_lang.specs.Join.{IsJoin}
use Rattle.rdx_lang.specs.Members.{In}
use Rattle.rdx_bind.specs.Choices.{RowsArePlain}
use Rattle.rdx_bind.specs.Columns.{HasAsked}
use Rattle.rdx_bind.specs.Rows.{SplitRow, all_matches}
use Rattle.rdx_bind.specs.Spots.{Spot}
use Rattle.rdx_bind.specs.declared.asks.Ask.{Ask}

-- a run from the first place on: some first cells, or none, match, and bind cs; what comes behind them matches and binds d
pub data Runs : List SplitRow → List SplitRow → List Binding → Binding → Type 0 where
  runs_end : {cells nexts : List SplitRow} {next : SplitRow} {d : Binding} → In d next.matches → Runs cells (next ∷ nexts) [] d
  runs_more : {cell next : SplitRow} {cells nexts : List SplitRow} {c d : Binding} {cs : List Binding} →
      In c cell.matches → Runs cells nexts cs d → Runs (cell ∷ cells) (next ∷ nexts) (c ∷ cs) d

-- the same, but that one cell is split, or what comes behind, along this path
pub data SplitRuns : List SplitRow → List SplitRow → List ℕ → List Binding → Binding → Type 0 where
  split_runs_here : {cell next : SplitRow} {cells nexts : List SplitRow} {s : Spot} {ks : List ℕ} {d : Binding} {cs : List Binding} →
      In s cell.spots → Runs cells nexts cs d → ks ≡ s.path → SplitRuns (cell ∷ cells) (next ∷ nexts) ks (s.binding ∷ cs) d
  split_runs_there : {cell next : SplitRow} {cells nexts : List SplitRow} {ks : List ℕ} {c d : Binding} {cs : List Binding} →
      In c cell.matches → SplitRuns cells nexts ks cs d → SplitRuns (cell ∷ cells) (next ∷ nexts) ks (c ∷ cs) d
  split_runs_behind : {cells nexts : List SplitRow} {next : SplitRow} {s : Spot} {ks : List ℕ} →
      In s next.spots → ks ≡ s.path → SplitRuns cells (next ∷ nexts) ks [] s.binding

-- b is what a repetition of these names binds together with what comes behind it
pub record TurnsTo (xs : List (List ℕ)) (x : Option (List ℕ)) (cells nexts : List SplitRow) (b : Binding) : Type 0 where
  pub turns : List Binding
  pub others : Binding
  pub collected : Binding
  pub run : Runs cells nexts turns others
  pub repetition : IsRepetition xs turns x collected
  pub joined : IsJoin collected others b

-- r is a spot of it
pub record SplitsTurn (xs : List (List ℕ)) (x : Option (List ℕ)) (cells nexts : List SplitRow) (r : Spot) : Type 0 where
  pub turns : List Binding
  pub others : Binding
  pub collected : Binding
  pub run : SplitRuns cells nexts r.path turns others
  pub repetition : IsRepetition xs turns x collected
  pub joined : IsJoin collected others r.binding

-- at each place, the row has what is asked of the repetition from there on
pub data AreTurns (xs : List (List ℕ)) (x : Option (List ℕ)) : List Ask → List SplitRow → List SplitRow → List SplitRow → Type 0 where
  turns_end : {a : Ask} {next row : SplitRow} →
      HasAsked (TurnsTo xs x [] (next ∷ [])) (SplitsTurn xs x [] (next ∷ [])) a row → AreTurns xs x (a ∷ []) [] (next ∷ []) (row ∷ [])
  turns_more : {a : Ask} {asks : List Ask} {cell next row : SplitRow} {cells nexts rows : List SplitRow} →
      HasAsked (TurnsTo xs x (cell ∷ cells) (next ∷ nexts)) (SplitsTurn xs x (cell ∷ cells) (next ∷ nexts)) a row
      → AreTurns xs x asks cells nexts rows → AreTurns xs x (a ∷ asks) (cell ∷ cells) (next ∷ nexts) (row ∷ rows)

-- where it is told so, none of the matches of the cells has a mismatch name
abbrev pub PlainWhere : Bool → List SplitRow → Type 0
PlainWhere plain cells = IsTrue plain → RowsArePlain (all_matches cells)

-- whatever a cell binds, it binds exactly these names
pub record BindExactly (xs : List (List ℕ)) (cells : List SplitRow) : Type 0 where
  pub matches : (cell : SplitRow) (c : Binding) → In cell cells → In c cell.matches → bound_names c ≡ xs
  pub spots : (cell : SplitRow) (s : Spot) → In cell cells → In s cell.spots → bound_names s.binding ≡ xs

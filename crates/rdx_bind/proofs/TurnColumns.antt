-- The column of a repetition and the items behind it, from its cells and their column.
use Rattle.std.proofs.Common.{◌≡◌, ℕ, ◌+◌, List, [], ◌∷◌, Option, length, arith}
use Rattle.rdx_term.specs.Tree.{Trees}
use Rattle.rdx_lang.specs.Bindings.{Binding}
use Rattle.rdx_lang.specs.Members.{In}
use Rattle.rdx_lang.specs.Names.{names}
use Rattle.rdx_lang.specs.Patterns.{Pattern, Items, many, Language}
use Rattle.rdx_lang.specs.Rules.{MatchItems, match_many, MatchRun, run_end, run_more}
use Rattle.rdx_bind.specs.Columns.{HasAsked, AreCells, cells_end, cells_more, IsColumn, column_end, column_more, ask_behind, both_asked, carried}
use Rattle.rdx_bind.specs.Rows.{SplitRow}
use Rattle.rdx_bind.specs.Spots.{Spot, ItemsSplitAt, splits_many, RunSplitsAt, run_splits_here, run_splits_there, run_splits_behind}
use Rattle.rdx_bind.specs.Turns.{Runs, runs_end, runs_more, SplitRuns, split_runs_here, split_runs_there, split_runs_behind, TurnsTo, SplitsTurn, AreTurns, turns_end, turns_more}
use Rattle.rdx_bind.specs.declared.asks.Ask.{Ask}
use Rattle.rdx_bind.proofs.AskedRows.{AsksMatches, AsksSplits, AtLeast, splits-match, both-first, both-other, behind-match, behind-splits, behind-spot, has-match, has-spot, match-has, spot-has, has-as}

-- ---- what is asked

-- at each place all is asked that was asked there, and what comes from the cell before it
pub data IsAsked : List Ask → List SplitRow → List Ask → Type 0 where
  asked_end : {a b : Ask} → AtLeast a b → IsAsked (a ∷ []) [] (b ∷ [])
  asked_more : {a b next : Ask} {asks asked : List Ask} {cell : SplitRow} {cells : List SplitRow} →
      AtLeast a b → AtLeast (ask_behind b cell) next → IsAsked asks cells (next ∷ asked) → IsAsked (a ∷ asks) (cell ∷ cells) (b ∷ next ∷ asked)

-- what is carried over the cells is asked
pub carried-asked : (before : Ask) (asks : List Ask) (cells : List SplitRow) → length asks ≡ length cells + 1
    → IsAsked asks cells (carried before asks cells)
carried-asked before [] cells e = absurd (omega arith)
carried-asked before (a ∷ []) [] e = asked_end (both-other before a)
carried-asked before (a ∷ b ∷ asks) [] e = absurd (omega arith)
carried-asked before (a ∷ []) (cell ∷ cells) e = absurd (omega arith)
carried-asked before (a ∷ b ∷ asks) (cell ∷ []) e =
    let asked : Ask = both_asked before a in
    let behind : Ask = ask_behind asked cell in
    asked_more (both-other before a) (both-first behind b) (carried-asked behind (b ∷ asks) [] (omega arith))
carried-asked before (a ∷ b ∷ asks) (cell ∷ next ∷ cells) e =
    let asked : Ask = both_asked before a in
    let behind : Ask = ask_behind asked cell in
    asked_more (both-other before a) (both-first behind b) (carried-asked behind (b ∷ asks) (next ∷ cells) (omega arith))

module _ {L : Language} {p : Pattern} {ps : Items} where
  -- ---- runs

  -- a run over the rows is one over the terms
  runs-match : {n : ℕ} {ts : Trees} {asked : List Ask} {cells nexts : List SplitRow} {cs : List Binding} {d : Binding}
      → AreCells L p n ts asked cells → IsColumn L ps n ts asked nexts
      → Runs cells nexts cs d → MatchRun L p ps ts cs d
  runs-match cells_end (column_end g) (runs_end i) = run_end (has-match g i)
  runs-match (cells_more h k) (column_more g c) (runs_end i) = run_end (has-match g i)
  runs-match (cells_more h k) (column_more g c) (runs_more i r) = run_more (has-match h i) (runs-match k c r)

  -- and the other way, where what is bound is asked
  match-runs : {n : ℕ} {ts : Trees} {b : Ask} {asks asked : List Ask} {cells nexts : List SplitRow} {cs : List Binding} {d : Binding}
      → AreCells L p n ts (b ∷ asked) cells → IsColumn L ps n ts (b ∷ asked) nexts
      → IsAsked asks cells (b ∷ asked) → AsksMatches b → MatchRun L p ps ts cs d → Runs cells nexts cs d
  match-runs cells_end (column_end g) u x (run_end m) = runs_end (match-has g x m)
  match-runs (cells_more h k) (column_more g c) u x (run_end m) = runs_end (match-has g x m)
  match-runs {b = b} (cells_more {cell = cell} h k) (column_more g c) (asked_more v w u) x (run_more {c = d} m r) =
      let i : In d cell.matches = match-has h x m in
      runs_more i (match-runs k c u (w.matches (behind-match b cell x i)) r)

  -- a run over the rows, one of which is split, is one over the terms
  runs-split : {n : ℕ} {ts : Trees} {asked : List Ask} {cells nexts : List SplitRow} {ks : List ℕ} {cs : List Binding} {d : Binding}
      → AreCells L p n ts asked cells → IsColumn L ps n ts asked nexts
      → SplitRuns cells nexts ks cs d → RunSplitsAt L n p ps ts ks cs d
  runs-split cells_end (column_end g) (split_runs_behind i e) = run_splits_behind (has-spot g i) e
  runs-split (cells_more h k) (column_more g c) (split_runs_here i r e) = run_splits_here (has-spot h i) (runs-match k c r) e
  runs-split (cells_more h k) (column_more g c) (split_runs_there i r) = run_splits_there (has-match h i) (runs-split k c r)
  runs-split (cells_more h k) (column_more g c) (split_runs_behind i e) = run_splits_behind (has-spot g i) e

  -- and the other way, where spots are asked
  split-runs : {n : ℕ} {ts : Trees} {b : Ask} {asks asked : List Ask} {cells nexts : List SplitRow} {ks : List ℕ} {cs : List Binding}
      {d : Binding} → AreCells L p n ts (b ∷ asked) cells → IsColumn L ps n ts (b ∷ asked) nexts
      → IsAsked asks cells (b ∷ asked) → AsksSplits b → RunSplitsAt L n p ps ts ks cs d → SplitRuns cells nexts ks cs d
  split-runs cells_end (column_end g) u x (run_splits_behind s e) = split_runs_behind (spot-has g x s) e
  split-runs (cells_more h k) (column_more g c) u x (run_splits_behind s e) = split_runs_behind (spot-has g x s) e
  split-runs {b = b} (cells_more {cell = cell} h k) (column_more g c) (asked_more v w u) x (run_splits_here {s = s} m r e) =
      let i : In s cell.spots = spot-has h x m in
      split_runs_here i (match-runs k c u (w.matches (behind-spot b cell x i)) r) e
  split-runs {b = b} (cells_more {cell = cell} h k) (column_more g c) (asked_more v w u) x (run_splits_there {c = d} m r) =
      let i : In d cell.matches = match-has h (splits-match b x) m in
      split_runs_there i (split-runs k c u (w.splits (behind-splits b cell x i)) r)

  -- ---- rows

  module _ {x : Option (List ℕ)} {n : ℕ} {ts : Trees} {a b : Ask} {asks asked : List Ask} {cells nexts : List SplitRow}
      (h : AreCells L p n ts (b ∷ asked) cells) (c : IsColumn L ps n ts (b ∷ asked) nexts)
      (u : IsAsked (a ∷ asks) cells (b ∷ asked)) where
    -- what the turns bind together with what comes behind them, the items bind
    turns-match : (d : Binding) → TurnsTo (names p) x cells nexts d → MatchItems L (many p x ps) ts d
    turns-match d t = match_many (runs-match h c t.run) t.repetition t.joined

    -- and the other way, where it is asked
    match-turns : AsksMatches b → (d : Binding) → MatchItems L (many p x ps) ts d → TurnsTo (names p) x cells nexts d
    match-turns y d (match_many {cs = cs} {c = f} {d = g} r q j) =
        record { turns = cs; others = g; collected = f; run = match-runs h c u y r; repetition = q; joined = j }

    -- where one row is split and the others match, the items are split
    turns-spot : (r : Spot) → SplitsTurn (names p) x cells nexts r → ItemsSplitAt L n (many p x ps) ts r
    turns-spot r t = splits_many (runs-split h c t.run) t.repetition t.joined

    -- and the other way, where it is asked
    spot-turns : AsksSplits b → (r : Spot) → ItemsSplitAt L n (many p x ps) ts r → SplitsTurn (names p) x cells nexts r
    spot-turns y r (splits_many {cs = cs} {c = f} {d = g} s q j) =
        record { turns = cs; others = g; collected = f; run = split-runs h c u y s; repetition = q; joined = j }

    -- so the row of the turns has what is asked of the items
    turns-row : {row : SplitRow} → AtLeast a b → HasAsked (TurnsTo (names p) x cells nexts) (SplitsTurn (names p) x cells nexts) a row
        → HasAsked (MatchItems L (many p x ps) ts) (ItemsSplitAt L n (many p x ps) ts) a row
    turns-row v = has-as turns-match (λ y. match-turns (v.matches y)) turns-spot (λ y. spot-turns (v.splits y))

  -- the rows of the turns are the column of the items
  pub turns-column : {x : Option (List ℕ)} {n : ℕ} {ts : Trees} {asks asked : List Ask} {cells nexts rows : List SplitRow}
      → AreCells L p n ts asked cells → IsColumn L ps n ts asked nexts
      → IsAsked asks cells asked → AreTurns (names p) x asks cells nexts rows → IsColumn L (many p x ps) n ts asks rows
  turns-column cells_end (column_end g) (asked_end v) (turns_end r) = column_end (turns-row cells_end (column_end g) (asked_end v) v r)
  turns-column (cells_more h k) (column_more g c) (asked_more v w u) (turns_more r q) =
      column_more (turns-row (cells_more h k) (column_more g c) (asked_more v w u) v r) (turns-column k c u q)

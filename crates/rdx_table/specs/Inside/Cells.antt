-- The cells of an item of a column, by the goals that they come of.
use Rattle.std.specs.Prelude.{◌≡◌, ℕ, ◌+◌, ◌-◌, ◌<◌, List, ◌∷◌, length, get_or, take, drop}
use Rattle.rdx_term.specs.Tree.{Tree, trees}
use Rattle.rdx_lang.specs.Patterns.{Pattern}
use Rattle.rdx_lang.specs.PatternView.{Slot, items_of}
use Rattle.rdx_lang.specs.Rules.{Match}
use Rattle.rdx_bind.specs.Columns.{HasAsked, AreCells, IsColumn}
use Rattle.rdx_bind.specs.Rows.{SplitRow}
use Rattle.rdx_bind.specs.Spots.{PlacedAt}
use Rattle.rdx_bind.specs.declared.asks.Ask.{Ask}
use Rattle.rdx_store.specs.Stored.{tree_by_id, trees_by_ids, AreIds}
use Rattle.rdx_nodes.specs.Asked.{asked_where}
use Rattle.rdx_nodes.specs.Nodes.{pattern_at}
use Rattle.rdx_nodes.specs.Settings.{language_at, patterns_at_hand, trees_at_hand}
use Rattle.rdx_nodes.specs.declared.setting.Setting.{Setting}
use Rattle.rdx_table.specs.Inside.Looks.{language_of_look, patterns_of_look, trees_of_look, IsLook}
use Rattle.rdx_table.specs.Inside.Tasks.{slots_in, column_slots, column_trees, AreTasks, IsGoal}
use Rattle.rdx_table.specs.declared.cells.Cells.{Cells}
use Rattle.rdx_table.specs.declared.look.Look.{Look}
use Rattle.rdx_table.specs.declared.task.Column.{Column}
use Rattle.rdx_table.specs.declared.task.Goal.{Goal}
use Rattle.rdx_table.specs.declared.task.Task.{Task}

-- the look is right, and the pattern and the terms are there
pub record AreReadable (c : Cells) : Type 0 where
  pub look : IsLook c.look
  pub number : c.number < length (patterns_of_look c.look)
  pub ids : AreIds c.ids.now (length (trees_of_look c.look))

-- their pattern, and their terms
abbrev pub cells_pattern : Cells → Pattern
cells_pattern c = pattern_at (patterns_of_look c.look) c.number

abbrev pub cells_trees : Cells → List Tree
cells_trees c = trees_by_ids (trees_of_look c.look) c.ids.now

-- the id of the i-th of the terms
abbrev pub cell_id : Cells → ℕ → ℕ
cell_id c i = get_or c.ids.now i 0

-- the goal is that of the i-th of the terms, of which this is asked
pub record IsCellGoal (c : Cells) (i : ℕ) (a : Ask) (g : Goal) : Type 0 where
  pub number : g.number ≡ c.number
  pub id : g.id ≡ cell_id c i
  pub asked : asked_where g.splits ≡ a

-- the row is the cell at the i-th of the terms
abbrev pub IsCell : Cells → ℕ → Ask → SplitRow → Type 0
IsCell c i a row =
    HasAsked (Match (language_of_look c.look) (cells_pattern c) (tree_by_id (trees_of_look c.look) (cell_id c i)))
    (PlacedAt (language_of_look c.look) (c.place + i) (cells_pattern c) (tree_by_id (trees_of_look c.look) (cell_id c i))) a row

-- the rows are the cells at all terms
abbrev pub AreCellsAt : Cells → List Ask → List SplitRow → Type 0
AreCellsAt c asks rows = AreCells (language_of_look c.look) (cells_pattern c) c.place (trees (cells_trees c)) asks rows

-- ---- what is missing

-- all tasks are right for this setting
abbrev pub AreFor : Setting → List Task → Type 0
AreFor s xs = AreTasks (language_at s) (patterns_at_hand s) (trees_at_hand s) xs

-- where the tasks before are right, and this goal is, so are those behind
abbrev pub AddsGoal : Goal → List Task → List Task → Type 0
AddsGoal g old new = (s : Setting) → IsGoal (language_at s) (patterns_at_hand s) (trees_at_hand s) g → AreFor s old → AreFor s new

-- ---- the items of a column

-- those behind the first
abbrev pub slots_behind : Look → Column → List Slot
slots_behind l c = take (c.last - (c.first + 1)) (drop (c.first + 1) (slots_in (pattern_at (patterns_of_look l) c.number)))

-- the items of the column begin with this one
abbrev pub BeginsWith : Look → Column → Slot → Type 0
BeginsWith l c s = column_slots (language_of_look l) (patterns_of_look l) (trees_of_look l) c ≡ s ∷ slots_behind l c

-- the rows are the column of the items behind the first, as is asked of them
abbrev pub IsBehind : Look → Column → List Ask → List SplitRow → Type 0
IsBehind l c asks rows =
    IsColumn (language_of_look l) (items_of (slots_behind l c)) c.place
    (trees (column_trees (language_of_look l) (patterns_of_look l) (trees_of_look l) c)) asks rows

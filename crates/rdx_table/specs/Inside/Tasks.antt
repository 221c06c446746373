-- What is to be found, and what was found.
use Rattle.std.specs.Prelude.{◌≡◌, ◌+◌, ◌-◌, ◌<◌, ◌≤◌, List, [], ◌∷◌, length, take, drop}
use Rattle.rdx_term.specs.Items.{tree_items}
use Rattle.rdx_term.specs.Tree.{Tree, Trees, cons, trees}
use Rattle.rdx_term.specs.Tree.{nil as no_trees}
use Rattle.rdx_lang.specs.Patterns.{Pattern, wild, of_kind, except, prefix, hole, lit, nt, named, differ, in_hole, hide_hole, closed, seq, Items, nil, one, many, Language}
use Rattle.rdx_lang.specs.PatternView.{Slot, just, repeated, items_of}
use Rattle.rdx_lang.specs.Rules.{Match}
use Rattle.rdx_bind.specs.Columns.{HasAsked, IsColumn}
use Rattle.rdx_bind.specs.Rows.{split_row_of, split_rows_of}
use Rattle.rdx_bind.specs.Spots.{SplitsAt}
use Rattle.rdx_bind.specs.declared.rows.Row.{Row}
use Rattle.rdx_store.specs.Stored.{tree_by_id}
use Rattle.rdx_nodes.specs.Asked.{asked_where}
use Rattle.rdx_nodes.specs.Nodes.{pattern_at}
use Rattle.rdx_table.specs.declared.task.Answer.{Answer}
use Rattle.rdx_table.specs.declared.task.Column.{Column}
use Rattle.rdx_table.specs.declared.task.Goal.{Goal}
use Rattle.rdx_table.specs.declared.task.Task.{Task}
use Rattle.rdx_table.specs.declared.task.Task.TheVariants as task

-- the items of a list pattern, one by one; none of another pattern
abbrev pub slots_of : Items → List Slot
slots_of nil = []
slots_of (one p ps) = just p ∷ slots_of ps
slots_of (many p n ps) = repeated p n ∷ slots_of ps

abbrev pub slots_in : Pattern → List Slot
slots_in wild = []
slots_in (of_kind k) = []
slots_in (except rs) = []
slots_in (prefix r) = []
slots_in hole = []
slots_in (lit u) = []
slots_in (nt x) = []
slots_in (named x q) = []
slots_in (differ x q) = []
slots_in (in_hole q r) = []
slots_in (hide_hole q) = []
slots_in (closed q) = []
slots_in (seq ps) = slots_of ps

-- the items of a tree, one by one; none where it is no list
abbrev pub listed : Trees → List Tree
listed no_trees = []
listed (cons t ts) = t ∷ listed ts

abbrev pub items_in : Tree → List Tree
items_in t = listed (tree_items t)

module _ (L : Language) (ps : List Pattern) (ts : List Tree) where
  -- ---- what is to be found

  -- a goal is of a pattern and a term
  pub record IsGoal (g : Goal) : Type 0 where
    pub number : g.number < length ps
    pub id : g.id < length ts

  -- the pattern of a goal, and its term
  abbrev pub goal_pattern : Goal → Pattern
  goal_pattern g = pattern_at ps g.number

  abbrev pub goal_tree : Goal → Tree
  goal_tree g = tree_by_id ts g.id

  -- the items of a column, and their terms
  abbrev pub column_slots : Column → List Slot
  column_slots c = take (c.last - c.first) (drop c.first (slots_in (pattern_at ps c.number)))

  abbrev pub column_trees : Column → List Tree
  column_trees c = take (length c.asks.items - 1) (drop c.place (items_in (tree_by_id ts c.id)))

  -- a column is of items of a list pattern and of places of a list
  pub record IsColumnTask (c : Column) : Type 0 where
    pub number : c.number < length ps
    pub id : c.id < length ts
    pub items : c.first ≤ c.last
    pub within : c.last ≤ length (slots_in (pattern_at ps c.number))
    pub some : 1 ≤ length c.asks.items
    pub places : c.place + length c.asks.items ≤ length (items_in (tree_by_id ts c.id)) + 1

  abbrev pub IsTask : Task → Type 0
  IsTask (task.Goal g) = IsGoal g
  IsTask (task.Column c) = IsColumnTask c

  abbrev pub AreTasks : List Task → Type 0
  AreTasks [] = Unit {0}
  AreTasks (x ∷ xs) = IsTask x × AreTasks xs

  -- ---- what was found

  -- the row has what the goal asks for
  abbrev pub IsRow : Goal → Row → Type 0
  IsRow g row = HasAsked (Match L (goal_pattern g) (goal_tree g)) (SplitsAt L (goal_pattern g) (goal_tree g)) (asked_where g.splits) (split_row_of row)

  -- the rows are the column
  abbrev pub IsColumnOf : Column → List Row → Type 0
  IsColumnOf c rows = IsColumn L (items_of (column_slots c)) c.place (trees (column_trees c)) c.asks.items (split_rows_of rows)

  -- the one row of a goal
  pub record IsOneRow (g : Goal) (rows : List Row) : Type 0 where
    pub row : Row
    pub alone : rows ≡ row ∷ []
    pub found : IsRow g row

  -- the rows are what is to be found
  abbrev pub IsFound : Task → List Row → Type 0
  IsFound (task.Goal g) rows = IsOneRow g rows
  IsFound (task.Column c) rows = IsColumnOf c rows

  -- answers are right
  abbrev pub IsAnswer : Answer → Type 0
  IsAnswer a = IsFound a.task a.rows.items

  abbrev pub AreAnswers : List Answer → Type 0
  AreAnswers [] = Unit {0}
  AreAnswers (x ∷ xs) = IsAnswer x × AreAnswers xs

-- What a look at a task has at hand, and when it stops.
use Rattle.std.specs.Prelude.{◌≡◌, ◌<◌, ℕ, List, [], Result, Vec}
use Rattle.std.specs.declared.alloc.Global.{Global}
use Rattle.std.specs.declared.result.Result.TheVariants.{Ok, Err}
use Rattle.rdx_term.specs.Tree.{Tree}
use Rattle.rdx_lang.specs.Patterns.{Pattern, Language}
use Rattle.rdx_nodes.specs.Doors.{doors_left}
use Rattle.rdx_nodes.specs.Settings.{language_at, patterns_at_hand, trees_at_hand, Grows, IsReady, IsClosedDoor}
use Rattle.rdx_table.specs.Inside.Tasks.{IsGoal, goal_pattern, goal_tree, AreTasks, IsRow, IsColumnOf, AreAnswers}
use Rattle.rdx_bind.specs.declared.rows.Row.{Row}
use Rattle.rdx_nodes.specs.declared.setting.Setting.{Setting}
use Rattle.rdx_table.specs.declared.frame.Frame.{Frame}
use Rattle.rdx_table.specs.declared.task.Column.{Column}
use Rattle.rdx_table.specs.declared.task.Goal.{Goal}
use Rattle.rdx_table.specs.declared.look.Look.{Look}
use Rattle.rdx_table.specs.declared.task.Stop.{Stop}
use Rattle.rdx_table.specs.declared.task.Stop.TheVariants.{Asks, Opens, NoMemory}
use Rattle.rdx_table.specs.declared.task.Task.{Task}

-- the language, the patterns and the terms
abbrev pub language_of_look : Look → Language
language_of_look l = language_at l.setting.now

abbrev pub patterns_of_look : Look → List Pattern
patterns_of_look l = patterns_at_hand l.setting.now

abbrev pub trees_of_look : Look → List Tree
trees_of_look l = trees_at_hand l.setting.now

-- the setting is right, and so are the answers
pub record IsLook (l : Look) : Type 0 where
  pub ready : IsReady l.setting.now
  pub answers : AreAnswers (language_of_look l) (patterns_of_look l) (trees_of_look l) l.answers.now

-- ---- goals of a look

-- a goal of one of its patterns and one of its terms
abbrev pub IsAim : Look → Goal → Type 0
IsAim l g = IsGoal (language_of_look l) (patterns_of_look l) (trees_of_look l) g

-- the pattern of a goal, and its term
abbrev pub aim_pattern : Look → Goal → Pattern
aim_pattern l g = goal_pattern (language_of_look l) (patterns_of_look l) (trees_of_look l) g

abbrev pub aim_tree : Look → Goal → Tree
aim_tree l g = goal_tree (language_of_look l) (patterns_of_look l) (trees_of_look l) g

-- the row has what the goal asks for
abbrev pub Meets : Look → Goal → Row → Type 0
Meets l g row = IsRow (language_of_look l) (patterns_of_look l) (trees_of_look l) g row

-- the rows are the column
abbrev pub MeetsColumn : Look → Column → List Row → Type 0
MeetsColumn l c rows = IsColumnOf (language_of_look l) (patterns_of_look l) (trees_of_look l) c rows

-- ---- when a look stops

-- some tasks are asked for
pub record AreAsked (s : Setting) (ts : List Task) : Type 0 where
  pub tasks : AreTasks (language_at s) (patterns_at_hand s) (trees_at_hand s) ts
  pub some : ¬ (ts ≡ [])

-- what stops a look is a list of tasks, or a nonterminal whose alternatives have no nodes yet, or want of memory
abbrev pub IsStop : Setting → Stop → Type 0
IsStop s (Asks ts) = AreAsked s ts.items
IsStop s (Opens n) = IsClosedDoor s n
IsStop s NoMemory = Unit {0}

-- the same of a result, if it is an error
abbrev pub Stops : {A : Type 0} → Setting → Result A Stop → Type 0
Stops s (Ok x) = Unit {0}
Stops s (Err e) = IsStop s e

-- what is done where a look at f, the frame on top, stops so: the tasks are what f wants, or the alternatives of the nonterminal get nodes
pub data Heeds (s : Setting) (f : Frame) : Stop → Setting → Frame → Type 0 where
  is_asked : {ts : Vec Task Global} → Heeds s f (Asks ts) s (record { task = f.task; answers = f.answers; wanted = ts })
  is_opened : {n : ℕ} {t : Setting} → IsReady t → Grows s t → doors_left t < doors_left s → Heeds s f (Opens n) t f

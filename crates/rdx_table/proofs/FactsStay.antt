-- What is known of patterns and terms stays known where patterns are added.
use Rattle.std.proofs.Common.{◌≡◌, ℕ, ◌-◌, ◌<◌, ◌≤◌, List, [], ◌∷◌, ◌++◌, Result, Ok, Err, OnOk, length, take, drop, refl, sym, ◌∙◌, ap, subst, arith, append-nil, append_assoc, length-append}
use Rattle.std.specs.HashMap.{HashMap}
use Rattle.rdx_term.specs.Tree.{Tree, Trees, trees}
use Rattle.rdx_lang.specs.Patterns.{Pattern, Language}
use Rattle.rdx_lang.specs.PatternView.{items_of}
use Rattle.rdx_lang.specs.Rules.{Match}
use Rattle.rdx_bind.specs.Columns.{HasAsked, IsColumn}
use Rattle.rdx_bind.specs.Rows.{split_row_of, split_rows_of}
use Rattle.rdx_bind.specs.Spots.{SplitsAt}
use Rattle.rdx_bind.specs.declared.rows.Row.{Row}
use Rattle.rdx_store.specs.Stored.{tree_by_id}
use Rattle.rdx_nodes.specs.Asked.{asked_where}
use Rattle.rdx_nodes.specs.Doors.{doors_left}
use Rattle.rdx_nodes.specs.Settings.{language_at, patterns_at_hand, trees_at_hand, Grows, IsReady}
use Rattle.rdx_nodes.specs.declared.entry.Entry.{Entry}
use Rattle.rdx_nodes.specs.declared.setting.Setting.{Setting}
use Rattle.rdx_nodes.proofs.NodePatterns.{pattern_at-append}
use Rattle.rdx_table.specs.Inside.Frames.{tasks_of, IsFrame, AreFrames}
use Rattle.rdx_table.specs.Inside.Looks.{IsStop, Heeds, is_asked, is_opened}
use Rattle.rdx_table.specs.Inside.Memos.{IsEntryAt, IsMemo}
use Rattle.rdx_table.specs.Inside.Tasks.{slots_in, column_trees, IsGoal, IsColumnTask, IsTask, AreTasks, IsRow, IsColumnOf, IsFound, AreAnswers}
use Rattle.rdx_table.specs.declared.frame.Frame.{Frame}
use Rattle.rdx_table.specs.declared.task.Answer.{Answer}
use Rattle.rdx_table.specs.declared.task.Column.{Column}
use Rattle.rdx_table.specs.declared.task.Goal.{Goal}
use Rattle.rdx_table.specs.declared.task.Stop.{Stop}
use Rattle.rdx_table.specs.declared.task.Stop.TheVariants.{Opens}
use Rattle.rdx_table.specs.declared.task.Task.{Task}
use Rattle.rdx_table.specs.declared.task.Task.TheVariants as task

-- ---- patterns that are added

-- a number is one
number-more : (ps more : List Pattern) (n : ℕ) → n < length ps → n < length (ps ++ more)
number-more ps more n h = omega (arith, h, length-append ps more)

-- ---- tasks

module _ (L : Language) (ps more : List Pattern) (ts : List Tree) where
  -- a goal
  pub goal-stays : (g : Goal) → IsGoal L ps ts g → IsGoal L (ps ++ more) ts g
  goal-stays g h = record { number = number-more ps more g.number h.number; id = h.id }

  -- a column
  column-stays : (c : Column) → IsColumnTask L ps ts c → IsColumnTask L (ps ++ more) ts c
  column-stays c h = record {
    number = number-more ps more c.number h.number;
    id = h.id;
    items = h.items;
    within = subst (λ (p : Pattern). c.last ≤ length (slots_in p)) (sym (pattern_at-append ps more c.number h.number)) h.within;
    some = h.some;
    places = h.places;
  }

  -- a task
  pub task-stays : (x : Task) → IsTask L ps ts x → IsTask L (ps ++ more) ts x
  task-stays (task.Goal g) h = goal-stays g h
  task-stays (task.Column c) h = column-stays c h

  -- tasks
  pub tasks-stay : (xs : List Task) → AreTasks L ps ts xs → AreTasks L (ps ++ more) ts xs
  tasks-stay [] h = tt
  tasks-stay (x ∷ xs) h = (task-stays x h.0, tasks-stay xs h.1)

  -- ---- what was found

  -- the row of a goal
  pub row-stays : (g : Goal) (row : Row) → g.number < length ps → IsRow L ps ts g row → IsRow L (ps ++ more) ts g row
  row-stays g row n h =
      let t : Tree = tree_by_id ts g.id in
      subst (λ (p : Pattern). HasAsked (Match L p t) (SplitsAt L p t) (asked_where g.splits) (split_row_of row))
      (sym (pattern_at-append ps more g.number n)) h

  -- back again
  pub row-was : (g : Goal) (row : Row) → g.number < length ps → IsRow L (ps ++ more) ts g row → IsRow L ps ts g row
  row-was g row n h =
      let t : Tree = tree_by_id ts g.id in
      subst (λ (p : Pattern). HasAsked (Match L p t) (SplitsAt L p t) (asked_where g.splits) (split_row_of row))
      (pattern_at-append ps more g.number n) h

  -- the rows of a column
  column_rows-stay : (c : Column) (rows : List Row) → c.number < length ps → IsColumnOf L ps ts c rows → IsColumnOf L (ps ++ more) ts c rows
  column_rows-stay c rows i h =
      let n : ℕ = c.last - c.first in
      let us : Trees = trees (column_trees L ps ts c) in
      subst (λ (p : Pattern). IsColumn L (items_of (take n (drop c.first (slots_in p)))) c.place us c.asks.items (split_rows_of rows))
      (sym (pattern_at-append ps more c.number i)) h

  -- what was found for a task
  pub found-stays : (x : Task) (rows : List Row) → IsTask L ps ts x → IsFound L ps ts x rows → IsFound L (ps ++ more) ts x rows
  found-stays (task.Goal g) rows i h = record { row = h.row; alone = h.alone; found = row-stays g h.row i.number h.found }
  found-stays (task.Column c) rows i h = column_rows-stay c rows i.number h

  -- answers
  pub answers-stay : (xs : List Answer) → AreTasks L ps ts (tasks_of xs) → AreAnswers L ps ts xs → AreAnswers L (ps ++ more) ts xs
  answers-stay [] i h = tt
  answers-stay (x ∷ xs) i h = (found-stays x.task x.rows.items i.0 h.0, answers-stay xs i.1 h.1)

  -- ---- frames and entries

  -- a frame
  pub frame-stays : (f : Frame) → IsFrame L ps ts f → IsFrame L (ps ++ more) ts f
  frame-stays f h = record {
    task = task-stays f.task h.task;
    wanted = tasks-stay f.wanted.items h.wanted;
    asked = tasks-stay (tasks_of f.answers.items) h.asked;
    answers = answers-stay f.answers.items h.asked h.answers;
  }

  -- frames
  pub frames-stay : (fs : List Frame) → AreFrames L ps ts fs → AreFrames L (ps ++ more) ts fs
  frames-stay [] h = tt
  frames-stay (f ∷ fs) h = (frame-stays f h.0, frames-stay fs h.1)

  -- an entry
  entry-stays : (k : ℕ × ℕ) (e : Entry) → IsEntryAt L ps ts k e → IsEntryAt L (ps ++ more) ts k e
  entry-stays k e h = record {
    number = number-more ps more k.0 h.number;
    found = row-stays (record { number = k.0; id = k.1; splits = e.splits }) e.row h.number h.found;
  }

  -- the memo
  pub memo-stays : {S : Type 0} (m : HashMap (ℕ × ℕ) Entry S) → IsMemo L ps ts m → IsMemo L (ps ++ more) ts m
  memo-stays m h k e i = entry-stays k e (h k e i)

-- ---- settings that grow

-- what is known with more patterns is known of the setting that grew
along : (P : Language → List Pattern → List Tree → Type 0) (old new : Setting) (g : Grows old new)
    → P (language_at old) (patterns_at_hand old ++ g.more) (trees_at_hand old) → P (language_at new) (patterns_at_hand new) (trees_at_hand new)
along P old new g h =
    subst (λ (L : Language). P L (patterns_at_hand new) (trees_at_hand new)) (sym g.language)
    (subst (λ (ps : List Pattern). P (language_at old) ps (trees_at_hand new)) (sym g.patterns)
    (subst (λ (ts : List Tree). P (language_at old) (patterns_at_hand old ++ g.more) ts) (sym g.terms) h))

-- and the other way
back : (P : Language → List Pattern → List Tree → Type 0) (old new : Setting) (g : Grows old new)
    → P (language_at new) (patterns_at_hand new) (trees_at_hand new) → P (language_at old) (patterns_at_hand old ++ g.more) (trees_at_hand old)
back P old new g h =
    subst (λ (ts : List Tree). P (language_at old) (patterns_at_hand old ++ g.more) ts) g.terms
    (subst (λ (ps : List Pattern). P (language_at old) ps (trees_at_hand new)) g.patterns
    (subst (λ (L : Language). P L (patterns_at_hand new) (trees_at_hand new)) g.language h))

-- a setting grows by nothing
pub grows-not : (s : Setting) → Grows s s
grows-not s = record { language = refl; terms = refl; more = []; patterns = sym (append-nil (patterns_at_hand s)) }

-- by one thing and then another
pub grows-then : (old now new : Setting) → Grows old now → Grows now new → Grows old new
grows-then old now new g h = record {
  language = h.language ∙ g.language;
  terms = h.terms ∙ g.terms;
  more = g.more ++ h.more;
  patterns = h.patterns ∙ ap (λ ps. ps ++ h.more) g.patterns ∙ append_assoc (patterns_at_hand old) g.more h.more;
}

module _ (old new : Setting) (g : Grows old new) where
  -- a frame
  pub frame-grows : (f : Frame) → IsFrame (language_at old) (patterns_at_hand old) (trees_at_hand old) f
      → IsFrame (language_at new) (patterns_at_hand new) (trees_at_hand new) f
  frame-grows f h = along (λ L ps ts. IsFrame L ps ts f) old new g
      (frame-stays (language_at old) (patterns_at_hand old) g.more (trees_at_hand old) f h)

  -- frames
  pub frames-grow : (fs : List Frame) → AreFrames (language_at old) (patterns_at_hand old) (trees_at_hand old) fs
      → AreFrames (language_at new) (patterns_at_hand new) (trees_at_hand new) fs
  frames-grow fs h = along (λ L ps ts. AreFrames L ps ts fs) old new g
      (frames-stay (language_at old) (patterns_at_hand old) g.more (trees_at_hand old) fs h)

  -- the memo
  pub memo-grows : {S : Type 0} (m : HashMap (ℕ × ℕ) Entry S) → IsMemo (language_at old) (patterns_at_hand old) (trees_at_hand old) m
      → IsMemo (language_at new) (patterns_at_hand new) (trees_at_hand new) m
  memo-grows m h = along (λ L ps ts. IsMemo L ps ts m) old new g (memo-stays (language_at old) (patterns_at_hand old) g.more (trees_at_hand old) m h)

  -- a row that was found later is one for the goal that was asked for
  pub row-before : (k : Goal) (row : Row) → IsGoal (language_at old) (patterns_at_hand old) (trees_at_hand old) k
      → IsRow (language_at new) (patterns_at_hand new) (trees_at_hand new) k row
      → IsRow (language_at old) (patterns_at_hand old) (trees_at_hand old) k row
  row-before k row i h = row-was (language_at old) (patterns_at_hand old) g.more (trees_at_hand old) k row i.number
      (back (λ L ps ts. IsRow L ps ts k row) old new g h)

-- ---- what is done where a look stops

pub heeds-ready : {s t : Setting} {f k : Frame} {x : Stop} → IsReady s → Heeds s f x t k → IsReady t
heeds-ready r (is_asked) = r
heeds-ready r (is_opened i g l) = i

pub heeds-grows : {s t : Setting} {f k : Frame} {x : Stop} → Heeds s f x t k → Grows s t
heeds-grows {s} (is_asked) = grows-not s
heeds-grows (is_opened i g l) = g

-- the frame on top stays right, and its task stays
pub heeds-frame : {s t : Setting} {f k : Frame} {x : Stop} → IsStop s x → IsFrame (language_at s) (patterns_at_hand s) (trees_at_hand s) f → Heeds s f x t k
    → IsFrame (language_at t) (patterns_at_hand t) (trees_at_hand t) k
heeds-frame a i (is_asked) = record { task = i.task; wanted = a.tasks; asked = i.asked; answers = i.answers }
heeds-frame {s} {t} {f} a i (is_opened r g l) = frame-grows s t g f i

pub heeds-task : {s t : Setting} {f k : Frame} {x : Stop} → Heeds s f x t k → k.task ≡ f.task
heeds-task (is_asked) = refl
heeds-task (is_opened r g l) = refl

-- nodes that the alternatives got
pub opened-heeds : {A E : Type 0} (r : Result A E) (s t : Setting) (f : Frame) (n : ℕ) → OnOk r (IsReady t) → OnOk r (Grows s t)
    → OnOk r (doors_left t < doors_left s) → OnOk r (Heeds s f (Opens n) t f)
opened-heeds (Ok u) s t f n i g l = is_opened i g l
opened-heeds (Err e) s t f n i g l = tt

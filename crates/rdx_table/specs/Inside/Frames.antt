-- Pending tasks.
use Rattle.std.specs.Prelude.{◌≡◌, List, [], ◌∷◌, ◌++◌, map, Vec}
use Rattle.std.specs.declared.alloc.Global.{Global}
use Rattle.rdx_term.specs.Tree.{Tree}
use Rattle.rdx_lang.specs.Patterns.{Pattern, Language}
use Rattle.rdx_bind.specs.declared.rows.Row.{Row}
use Rattle.rdx_table.specs.Inside.Tasks.{IsTask, AreTasks, IsFound, AreAnswers}
use Rattle.rdx_table.specs.declared.frame.Frame.{Frame}
use Rattle.rdx_table.specs.declared.task.Answer.{Answer}
use Rattle.rdx_table.specs.declared.task.Task.{Task}

-- what answers are found for
abbrev pub tasks_of : List Answer → List Task
tasks_of xs = map (λ a. a.task) xs

-- the task of the lowest frame, where x is that of the top
abbrev pub lowest : List Frame → Task → Task
lowest [] x = x
lowest (f ∷ fs) x = f.task

module _ (L : Language) (ps : List Pattern) (ts : List Tree) where
  -- a frame is right: so are its task, those that it wants, and its answers. No frame is tied to the one above it.
  pub record IsFrame (f : Frame) : Type 0 where
    pub task : IsTask L ps ts f.task
    pub wanted : AreTasks L ps ts f.wanted.items
    pub asked : AreTasks L ps ts (tasks_of f.answers.items)
    pub answers : AreAnswers L ps ts f.answers.items

  -- so are all frames
  abbrev pub AreFrames : List Frame → Type 0
  AreFrames [] = Unit {0}
  AreFrames (f ∷ fs) = IsFrame f × AreFrames fs

  -- what the frames are, and the one on top, where that was f and wants x: f gets an answer to x, or goes below a new frame for x
  pub data TakesUp (f : Frame) (x : Task) (old : List Frame) : List Frame → Frame → Type 0 where
    is_answered : {k : Frame} (rows : Vec Row Global) → IsFound L ps ts x rows.items → k.task ≡ f.task
        → k.answers.items ≡ f.answers.items ++ record { task = x; rows = rows } ∷ [] → k.wanted ≡ f.wanted → TakesUp f x old old k
    is_below : {new : List Frame} {k : Frame} → new ≡ old ++ f ∷ [] → k.task ≡ x → k.answers.items ≡ [] → k.wanted.items ≡ []
        → TakesUp f x old new k

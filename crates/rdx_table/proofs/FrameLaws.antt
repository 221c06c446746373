-- Frames, as tasks are asked for and answered.
use Rattle.std.proofs.Common.{◌≡◌, List, [], ◌∷◌, ◌++◌, Result, Ok, Err, IfOk, refl, sym, ◌∙◌, ap, subst}
use Rattle.std.specs.Prelude.{Vec}
use Rattle.std.specs.declared.alloc.Global.{Global}
use Rattle.rdx_term.specs.Tree.{Tree}
use Rattle.rdx_lang.specs.Patterns.{Pattern, Language}
use Rattle.rdx_bind.specs.declared.rows.Row.{Row}
use Rattle.rdx_table.specs.Inside.Frames.{tasks_of, lowest, IsFrame, AreFrames, TakesUp, is_answered, is_below}
use Rattle.rdx_table.specs.Inside.Tasks.{IsTask, AreTasks, IsRow, IsFound, IsOneRow, IsAnswer, AreAnswers}
use Rattle.rdx_table.specs.declared.frame.Frame.{Frame}
use Rattle.rdx_table.specs.declared.task.Answer.{Answer}
use Rattle.rdx_table.specs.declared.task.Goal.{Goal}
use Rattle.rdx_table.specs.declared.task.Task.{Task}
use Rattle.rdx_table.specs.declared.task.Task.TheVariants as task

module _ (L : Language) (ps : List Pattern) (ts : List Tree) where
  -- the last of some tasks, and the others
  tasks-pop : (xs : List Task) (x : Task) → AreTasks L ps ts (xs ++ x ∷ []) → AreTasks L ps ts xs × IsTask L ps ts x
  tasks-pop [] x h = (tt, h.0)
  tasks-pop (y ∷ xs) x h = let r = tasks-pop xs x h.1 in ((h.0, r.0), r.1)

  -- one answer more
  asked-push : (xs : List Answer) (x : Answer) → AreTasks L ps ts (tasks_of xs) → IsTask L ps ts x.task → AreTasks L ps ts (tasks_of (xs ++ x ∷ []))
  asked-push [] x h i = (i, tt)
  asked-push (y ∷ xs) x h i = (h.0, asked-push xs x h.1 i)

  answers-push : (xs : List Answer) (x : Answer) → AreAnswers L ps ts xs → IsAnswer L ps ts x → AreAnswers L ps ts (xs ++ x ∷ [])
  answers-push [] x h i = (i, tt)
  answers-push (y ∷ xs) x h i = (h.0, answers-push xs x h.1 i)

  -- a frame that gets an answer
  pub frame-answered : (f h : Frame) (x : Answer) → h.task ≡ f.task → h.wanted ≡ f.wanted → h.answers.items ≡ f.answers.items ++ x ∷ []
      → IsFrame L ps ts f → IsTask L ps ts x.task → IsAnswer L ps ts x → IsFrame L ps ts h
  frame-answered f h x d w e i t a = record {
    task = subst (IsTask L ps ts) (sym d) i.task;
    wanted = subst (λ (v : _). AreTasks L ps ts v.items) (sym w) i.wanted;
    asked = subst (λ (xs : List Answer). AreTasks L ps ts (tasks_of xs)) (sym e) (asked-push f.answers.items x i.asked t);
    answers = subst (AreAnswers L ps ts) (sym e) (answers-push f.answers.items x i.answers a);
  }

  -- a frame whose last wish is taken
  pub frame-takes : (f k : Frame) (x : Task) → k.task ≡ f.task → k.answers ≡ f.answers → f.wanted.items ≡ k.wanted.items ++ x ∷ [] → IsFrame L ps ts f
      → IsFrame L ps ts k × IsTask L ps ts x
  frame-takes f k x d e w i =
      let r : AreTasks L ps ts k.wanted.items × IsTask L ps ts x = tasks-pop k.wanted.items x (subst (AreTasks L ps ts) w i.wanted) in (
        record {
          task = subst (IsTask L ps ts) (sym d) i.task;
          wanted = r.0;
          asked = subst (λ (v : _). AreTasks L ps ts (tasks_of v.items)) (sym e) i.asked;
          answers = subst (λ (v : _). AreAnswers L ps ts v.items) (sym e) i.answers;
        },
        r.1,
      )

  -- the one row that is found for a goal
  pub row_alone : (g : Goal) (x : Task) (rows : List Row) (row : Row) → x ≡ task.Goal g → rows ≡ row ∷ [] → IsFound L ps ts x rows
      → IsRow L ps ts g row
  row_alone g x rows row d e h =
      let k : IsOneRow L ps ts g rows = subst (λ (y : Task). IsFound L ps ts y rows) d h in
      let o : k.row ≡ row = first (sym k.alone ∙ e) in
      subst (IsRow L ps ts g) o k.found
    where
      first : {a b : Row} → a ∷ [] ≡ b ∷ [] → a ≡ b
      first f = cc

  -- a new frame
  pub frame-new : (f : Frame) (x : Task) → f.task ≡ x → f.answers.items ≡ [] → f.wanted.items ≡ [] → IsTask L ps ts x → IsFrame L ps ts f
  frame-new f x d e w h = record {
    task = subst (IsTask L ps ts) (sym d) h;
    wanted = subst (AreTasks L ps ts) (sym w) tt;
    asked = subst (λ (xs : List Answer). AreTasks L ps ts (tasks_of xs)) (sym e) tt;
    answers = subst (AreAnswers L ps ts) (sym e) tt;
  }

  -- one frame more
  pub frames-push : (fs : List Frame) (f : Frame) → AreFrames L ps ts fs → IsFrame L ps ts f → AreFrames L ps ts (fs ++ f ∷ [])
  frames-push [] f h i = (i, tt)
  frames-push (k ∷ fs) f h i = (h.0, frames-push fs f h.1 i)

  -- what is f with an answer more has taken up what f wants
  pub answered-taken : {E : Type 0} (r : Result Frame E) (f : Frame) (x : Task) (old : List Frame) (rows : Vec Row Global) → IsFound L ps ts x rows.items
      → IfOk r (λ k. k.task ≡ f.task) → IfOk r (λ k. k.answers.items ≡ f.answers.items ++ record { task = x; rows = rows } ∷ [])
      → IfOk r (λ k. k.wanted ≡ f.wanted) → IfOk r (TakesUp L ps ts f x old old)
  answered-taken (Ok k) f x old rows a d e w = is_answered rows a d e w
  answered-taken (Err e) f x old rows a d h w = tt

  -- so are the frames where the top takes up what it wants
  pub taken-up : {f k : Frame} {x : Task} {old new : List Frame} → TakesUp L ps ts f x old new k → AreFrames L ps ts old → IsFrame L ps ts f
      → IsTask L ps ts x → AreFrames L ps ts new × IsFrame L ps ts k
  taken-up {f} {k} {x} (is_answered rows a d e w) b i t = (b, frame-answered f k (record { task = x; rows = rows }) d w e i t a)
  taken-up {f} {k} {x} {old} (is_below n d e w) b i t = (subst (AreFrames L ps ts) (sym n) (frames-push old f b i), frame-new k x d e w t)

  -- the last of some frames, and the others
  pub frames-pop : (fs : List Frame) (f : Frame) → AreFrames L ps ts (fs ++ f ∷ []) → AreFrames L ps ts fs × IsFrame L ps ts f
  frames-pop [] f h = (tt, h.0)
  frames-pop (k ∷ fs) f h = let r = frames-pop fs f h.1 in ((h.0, r.0), r.1)

-- the lowest task stays where a frame goes on top
pub lowest-push : (fs : List Frame) (f : Frame) (x : Task) → lowest (fs ++ f ∷ []) x ≡ lowest fs f.task
lowest-push [] f x = refl
lowest-push (k ∷ fs) f x = refl

-- so it does where the top takes up what it wants
pub lowest-taken : {L : Language} {ps : List Pattern} {ts : List Tree} {f k : Frame} {x : Task} {old new : List Frame}
    → TakesUp L ps ts f x old new k → lowest new k.task ≡ lowest old f.task
lowest-taken {old = old} (is_answered rows a d e w) = ap (lowest old) d
lowest-taken {f = f} {k} {old = old} (is_below n d e w) = ap (λ (gs : List Frame). lowest gs k.task) n ∙ lowest-push old f k.task

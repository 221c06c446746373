use Rattle.std.proofs.Common.{◌≡◌, ℕ, ◌+◌, ◌<◌, List, [], ◌∷◌, ◌++◌, refl, sym, ◌∙◌, ap, subst, arith}
use Rattle.std.proofs.lemmas.Grind.{common_steps}
use Rattle.rdx_term.specs.Tree.{Tree}
use Rattle.rdx_lang.specs.Patterns.{Pattern, Language}
use Rattle.rdx_nodes.specs.Doors.{doors_left}
use Rattle.rdx_nodes.specs.Settings.{language_at, patterns_at_hand, trees_at_hand, Grows}
use Rattle.rdx_nodes.specs.declared.setting.Setting.{Setting}
use Rattle.rdx_nodes.proofs.DoorsLeft.{fewer}
use Rattle.rdx_table.specs.Inside.Frames.{lowest, IsFrame, AreFrames}
use Rattle.rdx_table.specs.Inside.Tasks.{IsTask, AreTasks, IsFound}
use Rattle.rdx_table.proofs.FactsStay.{grows-then, frames-grow, memo-grows, row-before, heeds-ready, heeds-grows, heeds-frame, heeds-task}
use Rattle.rdx_table.proofs.FrameLaws.{frame-takes, row_alone, frame-answered, frames-pop, taken-up, lowest-push, lowest-taken}
use Rattle.rdx_table.proofs.StepsLeft.{left-heeded, left-popped, left-taken}
use Rattle.rdx_table.specs.declared.frame.Frame.{Frame}
use Rattle.rdx_table.specs.declared.task.Answer.{Answer}
use Rattle.rdx_table.specs.declared.task.Goal.{Goal}
use Rattle.rdx_table.specs.declared.task.Task.{Task}
use Rattle.rdx_table.specs.declared.task.Task.TheVariants as task
use Rattle.rdx_table.proofs.solve.find_row.Goals as goal

-- less is left, and as many doors
with_doors : (m n d : ℕ) → m < n → m + d < n + d
with_doors m n d h = omega arith

-- ---- a task that is taken up

pub take_up-requires-clause-task : goal.take_up-requires-clause-task
take_up-requires-clause-task c =
    let s : Setting = c.loop-task.setting in
    let f : Frame = c.loop-task.top in
    let k : Frame = record { task = f.task; answers = f.answers; wanted = c.pop.new.self } in
    (frame-takes (language_at s) (patterns_at_hand s) (trees_at_hand s) f k c.in-Some.task refl refl c.in-Some.ensures.items
    c.loop-task.invariant.top).1

pub loop-task-smaller-in-Some : goal.loop-task-smaller-in-Some
loop-task-smaller-in-Some c =
    let f : Frame = c.loop-task.top in
    let g : Frame = record { task = f.task; answers = f.answers; wanted = c.pop.new.self } in
    with_doors _ _ (doors_left c.loop-task.setting)
    (left-taken f g c.in_ok-top.top c.in-Some.task c.loop-task.below.items c.take_up.new.below.items (fewer c.loop-task.below) refl
    c.in-Some.ensures.items c.in_ok-top.ensures)

pub loop-task-preserved-in-Some : goal.loop-task-preserved-in-Some
loop-task-preserved-in-Some c =
    let s : Setting = c.loop-task.setting in
    let L : Language = language_at s in
    let ps : List Pattern = patterns_at_hand s in
    let ts : List Tree = trees_at_hand s in
    let f : Frame = c.loop-task.top in
    let t : Task = c.in-Some.task in
    let g : Frame = record { task = f.task; answers = f.answers; wanted = c.pop.new.self } in
    let w : IsFrame L ps ts g × IsTask L ps ts t = frame-takes L ps ts f g t refl refl c.in-Some.ensures.items c.loop-task.invariant.top in
    let p = taken-up L ps ts c.in_ok-top.ensures c.loop-task.invariant.below w.0 w.1 in
    record {
      ready = c.loop-task.invariant.ready;
      grown = c.loop-task.invariant.grown;
      memo = c.loop-task.invariant.memo;
      below = p.0;
      top = p.1;
      lowest = lowest-taken c.in_ok-top.ensures ∙ c.loop-task.invariant.lowest;
    }

-- ---- what is found for the top

pub loop-task-smaller-in-Ok : goal.loop-task-smaller-in-Ok
loop-task-smaller-in-Ok c =
    let f : Frame = c.in-Some-pop.frame in
    let x : Answer = record { task = c.into_task.result; rows = c.in-Ok.rows } in
    with_doors _ _ (doors_left c.loop-task.setting)
    (left-popped c.loop-task.below.items c.pop-in-Ok.new.self.items c.loop-task.top f c.in_ok-top-in-Ok.top x
    c.in-Some-pop.ensures.items (grind (arith, common_steps)) c.in_ok-top-in-Ok.ensures.answers)

pub loop-task-preserved-in-Ok : goal.loop-task-preserved-in-Ok
loop-task-preserved-in-Ok c =
    let s : Setting = c.loop-task.setting in
    let L : Language = language_at s in
    let ps : List Pattern = patterns_at_hand s in
    let ts : List Tree = trees_at_hand s in
    let f : Frame = c.in-Some-pop.frame in
    let fs : List Frame = c.pop-in-Ok.new.self.items in
    let t : Task = c.loop-task.top.task in
    let x : Answer = record { task = c.into_task.result; rows = c.in-Ok.rows } in
    let all : c.loop-task.below.items ≡ fs ++ f ∷ [] = c.in-Some-pop.ensures.items in
    let p : AreFrames L ps ts fs × IsFrame L ps ts f = frames-pop L ps ts fs f (subst (AreFrames L ps ts) all c.loop-task.invariant.below) in
    record {
      ready = c.loop-task.invariant.ready;
      grown = c.loop-task.invariant.grown;
      memo = c.in_ok-remember-in-Ok.ensures;
      below = p.0;
      top = frame-answered L ps ts f c.in_ok-top-in-Ok.top x c.in_ok-top-in-Ok.ensures.task c.in_ok-top-in-Ok.ensures.wanted
          c.in_ok-top-in-Ok.ensures.answers p.1 (subst (IsTask L ps ts) (sym c.into_task.ensures) c.loop-task.invariant.top.task)
          (subst (λ (y : Task). IsFound L ps ts y c.in-Ok.rows.items) (sym c.into_task.ensures) c.in-Ok.ensures.found);
      lowest = ap (lowest fs) c.in_ok-top-in-Ok.ensures.task ∙ sym (lowest-push fs f t) ∙ ap (λ (gs : List Frame). lowest gs t) (sym all) ∙ c.loop-task.invariant.lowest;
    }

-- ---- what is done first where the look stops

pub loop-task-smaller : goal.loop-task-smaller
loop-task-smaller c =
    let f : Frame = c.loop-task.top in
    let g : Frame = record { task = f.task; answers = f.answers; wanted = c.pop.new.self } in
    left-heeded c.loop-task.below.items f g refl (grind (arith, common_steps)) (grind (arith, common_steps)) c.in-Err.ensures.stop c.in_ok-heed-in-Err.ensures

pub loop-task-preserved : goal.loop-task-preserved
loop-task-preserved c =
    let s : Setting = c.loop-task.setting in
    let n : Setting = c.heed.new.setting in
    let f : Frame = c.loop-task.top in
    let h = c.in_ok-heed-in-Err.ensures in
    let g : Grows s n = heeds-grows h in
    let e : c.pop.new.self.items ≡ [] = grind (arith, common_steps) in
    let k : IsFrame (language_at s) (patterns_at_hand s) (trees_at_hand s)
    (record { task = f.task; answers = f.answers; wanted = c.pop.new.self }) = record {
      task = c.loop-task.invariant.top.task;
      wanted = subst (AreTasks (language_at s) (patterns_at_hand s) (trees_at_hand s)) (sym e) tt;
      asked = c.loop-task.invariant.top.asked;
      answers = c.loop-task.invariant.top.answers;
    } in
    record {
      ready = heeds-ready c.loop-task.invariant.ready h;
      grown = grows-then c.args.setting.now s n c.loop-task.invariant.grown g;
      memo = memo-grows s n g c.loop-task.memo c.loop-task.invariant.memo;
      below = frames-grow s n g c.loop-task.below.items c.loop-task.invariant.below;
      top = heeds-frame c.in-Err.ensures.stop k h;
      lowest = ap (lowest c.loop-task.below.items) (heeds-task h) ∙ c.loop-task.invariant.lowest;
    }

-- ---- what is found for the lowest task

pub returns-in_default-pop : goal.returns-in_default-pop
returns-in_default-pop c =
    let s : Setting = c.loop-task.setting in
    let L : Language = language_at s in
    let ps : List Pattern = patterns_at_hand s in
    let ts : List Tree = trees_at_hand s in
    let g : Goal = c.args.goal in
    let t : Task = c.loop-task.top.task in
    let none : c.loop-task.below.items ≡ [] = grind (arith, common_steps) in
    let e : t ≡ task.Goal g = sym (ap (λ (fs : List Frame). lowest fs t) none) ∙ c.loop-task.invariant.lowest in
    row-before c.args.setting.now s c.loop-task.invariant.grown g c.only_row.result c.requires.goal
    (row_alone L ps ts g t c.in-Ok.rows.items c.only_row.result e c.only_row.ensures c.in-Ok.ensures.found)

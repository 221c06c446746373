use Rattle.std.proofs.Common.{◌≡◌, ◌+◌, ◌++◌, ◌∷◌, [], List, length, ap, ◌∙◌, sym, subst, arith}
use Rattle.std.proofs.lemmas.List.{length-append}
use Rattle.rdx_table.specs.Inside.Looks.{language_of_look, patterns_of_look, trees_of_look}
use Rattle.rdx_table.specs.Inside.Tasks.{AreTasks}
use Rattle.rdx_table.specs.declared.task.Task.{Task}
use Rattle.rdx_table.specs.declared.task.Task.TheVariants as task
use Rattle.rdx_table.proofs.Entries.{tasks_push}
use Rattle.rdx_table.proofs.look.Look.goals.Goals as goal

pub loop-i-preserved : goal.loop-i-preserved
loop-i-preserved c =
    let L = language_of_look c.args.self.now in
    let ps = patterns_of_look c.args.self.now in
    let ts = trees_of_look c.args.self.now in
    let x : Task = task.Goal c.goal_at.result in
    let old : List Task = c.loop-i.tasks.items in
    let e : c.push.new.self.items ≡ old ++ x ∷ [] = c.in_ok-push.ensures.items in
    let n : length c.push.new.self.items ≡ length old + 1 = ap length e ∙ length-append old (x ∷ []) in
    let i = c.loop-i.invariant.1 in
    let h = c.loop-i-test.true in
    (subst (λ (xs : List Task). AreTasks L ps ts xs) (sym e) (tasks_push L ps ts old x c.loop-i.invariant.0 c.goal_at.ensures.goal), omega arith)

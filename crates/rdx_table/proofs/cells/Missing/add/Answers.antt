use Rattle.std.proofs.Common.{◌≡◌, ◌++◌, List, [], ◌∷◌, sym, subst, arith}
use Rattle.std.proofs.lemmas.Grind.{common_steps}
use Rattle.rdx_nodes.specs.Settings.{language_at, patterns_at_hand, trees_at_hand}
use Rattle.rdx_table.specs.Inside.Cells.{AreFor}
use Rattle.rdx_table.specs.declared.task.Task.{Task}
use Rattle.rdx_table.specs.declared.task.Task.TheVariants as task
use Rattle.rdx_table.proofs.CellGoals.{tasks-push}
use Rattle.rdx_table.proofs.cells.Missing.add.Goals as goal

pub returns-in_ok-push : goal.returns-in_ok-push
returns-in_ok-push c = λ s k h.
    let old : List Task = c.args.self.now.tasks.items in
    let e : c.push.new.self.items ≡ old ++ task.Goal c.args.goal ∷ [] = grind (arith, common_steps) in
    subst (AreFor s) (sym e) (tasks-push (language_at s) (patterns_at_hand s) (trees_at_hand s) old (task.Goal c.args.goal) h k)

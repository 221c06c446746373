use Rattle.std.proofs.Common.{List, subst}
use Rattle.std.specs.Prelude.{IfSome}
use Rattle.rdx_term.specs.Tree.{Tree}
use Rattle.rdx_lang.specs.Patterns.{Pattern, Language}
use Rattle.rdx_nodes.specs.Settings.{language_at, patterns_at_hand, trees_at_hand}
use Rattle.rdx_table.specs.Inside.Frames.{is_below}
use Rattle.rdx_table.specs.Inside.Tasks.{IsFound}
use Rattle.rdx_table.specs.declared.task.Task.{Task}
use Rattle.rdx_table.proofs.FrameLaws.{answered-taken}
use Rattle.rdx_table.proofs.solve.take_up.Goals as goal

pub returns-in-Some : goal.returns-in-Some
returns-in-Some c =
    let L : Language = language_at c.args.setting.now in
    let ps : List Pattern = patterns_at_hand c.args.setting.now in
    let ts : List Tree = trees_at_hand c.args.setting.now in
    let t : Task = c.args.task in
    let a : IsFound L ps ts t c.in-Some.rows.items = subst (λ r. IfSome r (λ rows. IsFound L ps ts t rows.items)) c.in-Some.is c.in_ok-rows.ensures in
    answered-taken L ps ts c.answered.result c.args.top t c.args.below.now.items c.in-Some.rows a c.answered.ensures.task
    c.answered.ensures.answers c.answered.ensures.wanted

pub returns-in_ok-push-in-None : goal.returns-in_ok-push-in-None
returns-in_ok-push-in-None c = is_below c.in_ok-push-in-None.ensures.items c.new.ensures.task c.new.ensures.answers c.new.ensures.wanted

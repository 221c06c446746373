use Rattle.std.proofs.Common.{sym, subst}
use Rattle.std.specs.Prelude.{IfSome}
use Rattle.rdx_nodes.specs.Settings.{language_at, patterns_at_hand, trees_at_hand}
use Rattle.rdx_nodes.specs.declared.setting.Setting.{Setting}
use Rattle.rdx_table.specs.Inside.Tasks.{IsRow, IsFound}
use Rattle.rdx_table.specs.declared.task.Goal.{Goal}
use Rattle.rdx_table.specs.declared.task.Task.{Task}
use Rattle.rdx_table.proofs.memo.recall.Goals as goal

pub returns-in_ok-rows-in-Some : goal.returns-in_ok-rows-in-Some
returns-in_ok-rows-in-Some c =
    let s : Setting = c.args.setting.now in
    let g : Goal = c.in-Goal.goal in
    let h : IsRow (language_at s) (patterns_at_hand s) (trees_at_hand s) g c.in-Some.row =
    subst (λ r. IfSome r (IsRow (language_at s) (patterns_at_hand s) (trees_at_hand s) g)) c.in-Some.is c.in_ok-row.ensures in
    subst (λ (x : Task). IsFound (language_at s) (patterns_at_hand s) (trees_at_hand s) x c.in_ok-rows-in-Some.rows.items) (sym c.in-Goal.is)
    (record { row = c.in-Some.row; alone = c.in_ok-rows-in-Some.ensures; found = h })

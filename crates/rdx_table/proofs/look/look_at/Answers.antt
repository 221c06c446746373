use Rattle.std.proofs.Common.{List, sym, subst}
use Rattle.rdx_term.specs.Tree.{Tree}
use Rattle.rdx_lang.specs.Patterns.{Language, Pattern}
use Rattle.rdx_bind.specs.declared.rows.Row.{Row}
use Rattle.rdx_nodes.specs.Settings.{language_at, patterns_at_hand, trees_at_hand}
use Rattle.rdx_table.specs.Inside.Tasks.{IsColumnTask, IsFound, IsOneRow, IsTask}
use Rattle.rdx_table.specs.declared.look.Look.{Look}
use Rattle.rdx_table.specs.declared.task.Task.{Task}
use Rattle.rdx_table.proofs.LookForms.{entries_of_pattern, slots_of_pattern}
use Rattle.rdx_table.proofs.look.look_at.Goals as goal

pub column-requires-clause-entries : goal.column-requires-clause-entries
column-requires-clause-entries c =
    let l : Look = record { setting = c.args.setting; answers = c.args.answers } in
    let t : IsColumnTask (language_at c.args.setting.now) (patterns_at_hand c.args.setting.now)
    (trees_at_hand c.args.setting.now) c.in-Column.column =
    subst (λ (x : Task). IsTask (language_at c.args.setting.now) (patterns_at_hand c.args.setting.now)
    (trees_at_hand c.args.setting.now) x) c.in-Column.is c.requires.task in
    entries_of_pattern l c.in-Column.column.number c.form.result.now c.entries_of.result.now t.number c.form.ensures c.entries_of.ensures

pub column-requires-clause-slots : goal.column-requires-clause-slots
column-requires-clause-slots c =
    let l : Look = record { setting = c.args.setting; answers = c.args.answers } in
    slots_of_pattern l c.in-Column.column.number c.form.result.now c.entries_of.result.now c.form.ensures c.entries_of.ensures

pub returns-in_ok-one_row-in-Goal-clause-found : goal.returns-in_ok-one_row-in-Goal-clause-found
returns-in_ok-one_row-in-Goal-clause-found c =
    let L : Language = language_at c.args.setting.now in
    let ps : List Pattern = patterns_at_hand c.args.setting.now in
    let ts : List Tree = trees_at_hand c.args.setting.now in
    let rows : List Row = c.in_ok-one_row-in-Goal.field-0.items in
    let one : IsOneRow L ps ts c.in-Goal.goal rows = record {
      row = c.in_ok-row-in-Goal.row;
      alone = c.in_ok-one_row-in-Goal.ensures;
      found =
          c.in_ok-row-in-Goal.ensures.found;
    } in
    subst (λ (x : Task). IsFound L ps ts x rows) (sym c.in-Goal.is) one

use Rattle.std.proofs.Common.{List, sym, subst}
use Rattle.rdx_term.specs.Tree.{Tree}
use Rattle.rdx_lang.specs.Patterns.{Language, Pattern}
use Rattle.rdx_bind.specs.declared.rows.Row.{Row}
use Rattle.rdx_table.specs.Inside.Looks.{language_of_look, patterns_of_look, trees_of_look}
use Rattle.rdx_table.specs.Inside.Tasks.{IsFound, IsAnswer, IsColumnOf}
use Rattle.rdx_table.specs.declared.task.Task.{Task}
use Rattle.rdx_table.proofs.AnswerLaws.{answer_at, column_same}
use Rattle.rdx_table.proofs.look.Look.rows.Goals as goal

pub returns-in-Column : goal.returns-in-Column
returns-in-Column c =
    let L : Language = language_of_look c.args.self.now in
    let ps : List Pattern = patterns_of_look c.args.self.now in
    let ts : List Tree = trees_of_look c.args.self.now in
    let rows : List Row = c.in_ok-answer.answer.now.rows.items in
    let a : IsAnswer L ps ts c.in_ok-answer.answer.now =
    answer_at L ps ts c.args.self.now.answers.now c.args.next c.in_ok-answer.answer.now c.requires.look.answers c.in_ok-answer.ensures.lookup.3.0 c.in_ok-answer.ensures.lookup.1 in
    let b : IsColumnOf L ps ts c.in-Column.other rows = subst (λ (x : Task). IsFound L ps ts x rows) c.in-Column.is a in
    subst (λ (rs : List Row). IsColumnOf L ps ts c.args.column.now rs) (sym c.deref.ensures.value)
    (column_same L ps ts c.in-Column.other c.args.column.now rows (c.is_same_column.ensures c.if-is_same_column.true) b)

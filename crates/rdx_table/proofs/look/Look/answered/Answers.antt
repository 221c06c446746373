use Rattle.std.proofs.Common.{◌≡◌, List, length, ap, sym, ◌∙◌, subst, arith}
use Rattle.std.proofs.lemmas.Grind.{common_steps}
use Rattle.rdx_term.specs.Tree.{Tree}
use Rattle.rdx_lang.specs.Patterns.{Language, Pattern}
use Rattle.rdx_bind.specs.declared.rows.Row.{Row}
use Rattle.rdx_table.specs.Inside.Looks.{language_of_look, patterns_of_look, trees_of_look}
use Rattle.rdx_table.specs.Inside.Tasks.{IsFound, IsAnswer, IsOneRow}
use Rattle.rdx_table.specs.declared.task.Goal.{Goal}
use Rattle.rdx_table.specs.declared.task.Task.{Task}
use Rattle.rdx_table.proofs.AnswerLaws.{answer_at, first_row, same_goal}
use Rattle.rdx_table.proofs.look.Look.answered.Goals as goal

pub index-requires : goal.index-requires
index-requires c =
    let L : Language = language_of_look c.args.self.now in
    let ps : List Pattern = patterns_of_look c.args.self.now in
    let ts : List Tree = trees_of_look c.args.self.now in
    let rows : List Row = c.in_ok-answer.answer.now.rows.items in
    let a : IsAnswer L ps ts c.in_ok-answer.answer.now =
    answer_at L ps ts c.args.self.now.answers.now c.args.next c.in_ok-answer.answer.now c.requires.look.answers c.in_ok-answer.ensures.lookup.3.0 c.in_ok-answer.ensures.lookup.1 in
    let one : IsOneRow L ps ts c.in-Goal.other rows = subst (λ (x : Task). IsFound L ps ts x rows) c.in-Goal.is a in
    let h : length rows ≡ 1 = ap length one.alone in
    grind (arith, common_steps)

pub returns-in-Goal-clause-row : goal.returns-in-Goal-clause-row
returns-in-Goal-clause-row c =
    let L : Language = language_of_look c.args.self.now in
    let ps : List Pattern = patterns_of_look c.args.self.now in
    let ts : List Tree = trees_of_look c.args.self.now in
    let rows : List Row = c.in_ok-answer.answer.now.rows.items in
    let a : IsAnswer L ps ts c.in_ok-answer.answer.now =
    answer_at L ps ts c.args.self.now.answers.now c.args.next c.in_ok-answer.answer.now c.requires.look.answers c.in_ok-answer.ensures.lookup.3.0 c.in_ok-answer.ensures.lookup.1 in
    let one : IsOneRow L ps ts c.in-Goal.other rows = subst (λ (x : Task). IsFound L ps ts x rows) c.in-Goal.is a in
    let e : c.in-Goal.other ≡ c.args.goal = same_goal c.in-Goal.other c.args.goal (sym c.eq.ensures ∙ c.if-eq.true) in
    first_row L ps ts c.args.goal rows c.index.result.now (subst (λ (g : Goal). IsOneRow L ps ts g rows) e one) c.index.ensures

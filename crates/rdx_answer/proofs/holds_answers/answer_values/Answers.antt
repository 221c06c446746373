use Rattle.std.proofs.Common.{true, false, map, refl}
use Rattle.rdx_term.specs.View.{tree_of}
use Rattle.rdx_lang.specs.ProgramView.{premise_of, program_of}
use Rattle.rdx_lang.specs.Programs.{Premise, Program}
use Rattle.rdx_lang.specs.TemplateView.{template_of}
use Rattle.rdx_lang.specs.Templates.{Template}
use Rattle.rdx_eval.specs.Answers.{value, fault, Then}
use Rattle.rdx_eval.specs.Heights.{calls_at, height}
use Rattle.rdx_eval.specs.Views.{program_in, terms_in}
use Rattle.rdx_answer.specs.AnswerText.{answers_text, fault_line}
use Rattle.rdx_answer.specs.HoldsAnswers.{FindsMet, IsValuesAnswer, Values, values_found, values_faulted}
use Rattle.rdx_answer.proofs.MetPremises.{values_answer}
use Rattle.rdx_answer.proofs.Trying.{error_tried}
use Rattle.rdx_answer.proofs.holds_answers.answer_values.Goals as goal

pub returns-in_err-values-clause-answer : goal.returns-in_err-values-clause-answer
returns-in_err-values-clause-answer g c =
    let P : Program = program_of (program_in c.args.engine.now).now in
    let q : Premise = premise_of c.args.premise.now in
    let t : Template = template_of c.args.t.now in
    error_tried terms_in (Then (FindsMet P q) (Values (calls_at P height) t)) (IsValuesAnswer P q t) c.args.out.now.items
    c.from_residual.result _ c.from_residual.ensures.1
    (λ f h. values_answer P q t (fault f) (fault_line f) false h (values_faulted refl refl)) c.in_err-values.ensures.answer

pub returns-clause-answer : goal.returns-clause-answer
returns-clause-answer g c =
    let P : Program = program_of (program_in c.args.engine.now).now in
    let q : Premise = premise_of c.args.premise.now in
    let t : Template = template_of c.args.t.now in
    record {
      text = answers_text (map tree_of c.deref.result.now);
      answer = values_answer P q t (value (terms_in c.in_ok-values.values)) (answers_text (map tree_of c.deref.result.now)) true c.in_ok-values.ensures.answer
          (values_found (λ i. answers_text (map tree_of (c.deref.ensures.value i))) refl);
      gained = c.in_ok-write_answers.ensures;
    }

use Rattle.std.proofs.Common.{◌∙◌, refl, ap}
use Rattle.rdx_lang.specs.ProgramView.{premise_of, program_of}
use Rattle.rdx_lang.specs.Programs.{Premise, Program}
use Rattle.rdx_lang.specs.Shown.{bindings_of}
use Rattle.rdx_eval.specs.Answers.{value, fault}
use Rattle.rdx_eval.specs.Judgements.{are_some}
use Rattle.rdx_eval.specs.Views.{bindings_in, program_in}
use Rattle.rdx_answer.specs.AnswerText.{holds_text}
use Rattle.rdx_answer.specs.HoldsAnswers.{FindsMet, IsHoldsAnswer, whether_found, question_faulted}
use Rattle.rdx_answer.proofs.Trying.{error_tried}
use Rattle.rdx_answer.proofs.holds_answers.answer_whether_met.Goals as goal

pub returns-in_err-found-clause-answer : goal.returns-in_err-found-clause-answer
returns-in_err-found-clause-answer g c =
    let P : Program = program_of (program_in c.args.engine.now).now in
    let q : Premise = premise_of c.args.premise.now in
    error_tried bindings_in (FindsMet P q) (IsHoldsAnswer P q) c.args.out.now.items c.from_residual.result _ c.from_residual.ensures.1
    (λ f h. record { found = fault f; finds = h; written = question_faulted refl refl }) c.in_err-found.ensures.answer

pub returns-clause-answer : goal.returns-clause-answer
returns-clause-answer g c = record {
  text = holds_text c.are_some.result;
  answer = record {
    found = value (bindings_in c.in_ok-found.found);
    finds = c.in_ok-found.ensures.answer;
    written = whether_found (ap holds_text (c.are_some.ensures ∙ ap (λ bs. are_some (bindings_of bs)) c.deref.ensures.value)) refl;
  };
  gained = c.in_ok-write_holds.ensures;
}

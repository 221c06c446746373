use Rattle.std.proofs.Common.{◌≡◌, Some, map, refl, subst, ap, Bor}
use Rattle.std.specs.Prelude.{Err}
use Rattle.rdx_term.specs.Tree.{Tree}
use Rattle.rdx_term.specs.View.{tree_of}
use Rattle.rdx_lang.specs.ProgramView.{program_of, relation_of, rule_of}
use Rattle.rdx_lang.specs.Programs as programs
use Rattle.rdx_lang.specs.Programs.{Relation, relation_named}
use Rattle.rdx_lang.specs.declared.program.Program.{Program}
use Rattle.rdx_eval.specs.Answers.{value, fault}
use Rattle.rdx_eval.specs.Views.{Says, program_in}
use Rattle.rdx_reduce.specs.Relations.{AreSteps}
use Rattle.rdx_reduce.specs.StepView.{step_of, steps_in}
use Rattle.rdx_answer.specs.AnswerText.{steps_text}
use Rattle.rdx_answer.specs.StepAnswers.{named_steps, steps_found, steps_faulted, IsTaggedAnswer}
use Rattle.rdx_answer.proofs.Trying.{error_tried}
use Rattle.rdx_answer.proofs.step_answers.answer_steps.Goals as goal

pub returns-in_err-found-clause-answer : goal.returns-in_err-found-clause-answer
returns-in_err-found-clause-answer g c =
    let P : programs.Program = program_of (program_in c.args.engine.now).now in
    let R : Relation = relation_of c.in_ok-relation.relation.now in
    let t : Tree = tree_of c.args.t.now in
    let known : relation_named P c.args.name.now ≡ Some R = c.in_ok-relation.ensures.found in
    let e : program_of (program_in c.relation.new.engine).now ≡ P = ap (λ (q : Bor Program). program_of q.now) c.in_ok-relation.ensures.same in
    error_tried steps_in (AreSteps P R t) (IsTaggedAnswer P c.args.name.now t) c.args.out.now.items c.from_residual-in_err-found.result _ c.from_residual-in_err-found.ensures.1
    (λ f h. record { relation = R; known = known; answer = fault f; steps = h; written = steps_faulted refl refl })
    (subst (λ (p : programs.Program). Says steps_in (AreSteps p R t) (Err c.in_err-found.field-0.0)) e c.in_err-found.ensures.answer)

pub returns-clause-answer : goal.returns-clause-answer
returns-clause-answer g c =
    let P : programs.Program = program_of (program_in c.args.engine.now).now in
    let R : Relation = relation_of c.in_ok-relation.relation.now in
    let known : relation_named P c.args.name.now ≡ Some R = c.in_ok-relation.ensures.found in
    let e : program_of (program_in c.relation.new.engine).now ≡ P = ap (λ (q : Bor Program). program_of q.now) c.in_ok-relation.ensures.same in
    record {
      text = steps_text (named_steps (map rule_of c.deref.result.now) (map step_of c.deref-2.result.now));
      answer = record {
        relation = R;
        known = known;
        answer = value (steps_in c.in_ok-found.found);
        steps = subst (λ (p : programs.Program). AreSteps p R (tree_of c.args.t.now) (value (steps_in c.in_ok-found.found))) e c.in_ok-found.ensures.answer;
        written = steps_found (λ i. steps_text (named_steps (map rule_of (c.deref.ensures.value i)) (map step_of (c.deref-2.ensures.value i)))) refl;
      };
      gained = c.in_ok-write_steps.ensures;
    }

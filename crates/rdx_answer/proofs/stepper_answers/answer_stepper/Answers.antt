use Rattle.std.proofs.Common.{◌≡◌, Some, map, subst, ap, Bor}
use Rattle.rdx_term.specs.View.{tree_of}
use Rattle.rdx_lang.specs.ProgramView.{program_of, relation_of, rule_of}
use Rattle.rdx_lang.specs.Programs as programs
use Rattle.rdx_lang.specs.Programs.{Relation, relation_named}
use Rattle.rdx_lang.specs.declared.program.Program.{Program}
use Rattle.rdx_eval.specs.Views.{program_in}
use Rattle.rdx_reduce.specs.Relations.{AreSteps}
use Rattle.rdx_run.specs.Walks.{Walks}
use Rattle.rdx_run.specs.Views.{walk_of}
use Rattle.rdx_answer.specs.StepperAnswers.{walk_text}
use Rattle.rdx_answer.proofs.Trying.{both_ok}
use Rattle.rdx_answer.proofs.stepper_answers.answer_stepper.Goals as goal

pub returns-clause-answer : goal.returns-clause-answer
returns-clause-answer g c =
    let P : programs.Program = program_of (program_in c.args.engine.now).now in
    let R : Relation = relation_of c.in_ok-relation.relation.now in
    let known : relation_named P c.args.name.now ≡ Some R = c.in_ok-relation.ensures.found in
    let e : program_of (program_in c.relation.new.engine).now ≡ P = ap (λ (q : Bor Program). program_of q.now) c.in_ok-relation.ensures.same in
    both_ok c.write_walk.result _ _ _
    (λ met text done. record {
      text = walk_text (map rule_of c.deref.result.now) (walk_of c.in_ok-walk.walk);
      answer = record {
        relation = R;
        known = known;
        walk = walk_of c.in_ok-walk.walk;
        walks = subst (λ (p : programs.Program). Walks (AreSteps p R) (tree_of c.args.t.now) c.args.choices.now (walk_of c.in_ok-walk.walk)) e c.in_ok-walk.ensures.walk;
        printed = λ i. walk_text (map rule_of (c.deref.ensures.value i)) (walk_of c.in_ok-walk.walk);
        is_met = done;
      };
      gained = text;
    }) c.write_walk.ensures.text c.write_walk.ensures.done

use Rattle.std.proofs.Common.{◌≡◌, Some, refl, ap, subst, Bor}
use Rattle.std.specs.Prelude.{Err}
use Rattle.rdx_term.specs.Tree.{Tree}
use Rattle.rdx_term.specs.View.{tree_of}
use Rattle.rdx_lang.specs.ProgramView.{program_of, relation_of}
use Rattle.rdx_lang.specs.Programs as programs
use Rattle.rdx_lang.specs.Programs.{Relation, relation_named}
use Rattle.rdx_lang.specs.declared.program.Program.{Program}
use Rattle.rdx_eval.specs.Views.{fault_of, program_in}
use Rattle.rdx_reduce.specs.Relations.{AreSteps}
use Rattle.rdx_run.specs.Runs.{RunEnd, Runs, rests, fails, branches, is_bound, most_steps}
use Rattle.rdx_run.specs.Views.{SaysEnd}
use Rattle.rdx_run.specs.declared.run.RunFault.{RunFault}
use Rattle.rdx_answer.specs.AnswerText.{branches_line, bound_line}
use Rattle.rdx_answer.specs.TestAnswers.{rest_compared, run_fails, run_branches, run_is_bound}
use Rattle.rdx_answer.proofs.test_answers.compare_end.Goals as goal

pub returns-in_ok-compare_rest-in-Ok-clause-answer : goal.returns-in_ok-compare_rest-in-Ok-clause-answer
returns-in_ok-compare_rest-in-Ok-clause-answer g c =
    let P : programs.Program = program_of (program_in c.args.engine.now).now in
    let R : Relation = relation_of c.in_ok-relation.relation.now in
    let known : relation_named P c.args.name.now ≡ Some R = c.in_ok-relation.ensures.found in
    let f : program_of (program_in c.relation.new.engine).now ≡ P = ap (λ (q : Bor Program). program_of q.now) c.in_ok-relation.ensures.same in
    let a = c.in_ok-compare_rest-in-Ok.ensures in
    record {
      text = a.text;
      answer = record {
        relation = R;
        known = known;
        end = rests (tree_of c.in-Ok.rest);
        runs = subst (λ (p : programs.Program). Runs (AreSteps p R) most_steps (tree_of c.args.t.now) (rests (tree_of c.in-Ok.rest))) f c.in-Ok.ensures.end;
        written = rest_compared a.answer;
      };
      gained = a.gained;
    }

pub returns-in-Named-clause-answer : goal.returns-in-Named-clause-answer
returns-in-Named-clause-answer g c =
    let P : programs.Program = program_of (program_in c.args.engine.now).now in
    let R : Relation = relation_of c.in_ok-relation.relation.now in
    let T : programs.Program → RunEnd → Type 0 = λ p. Runs (AreSteps p R) most_steps (tree_of c.args.t.now) in
    let known : relation_named P c.args.name.now ≡ Some R = c.in_ok-relation.ensures.found in
    let e : program_of (program_in c.relation.new.engine).now ≡ P = ap (λ (q : Bor Program). program_of q.now) c.in_ok-relation.ensures.same in
    let runs : T P (fails (fault_of c.in-Named.fault)) =
    subst (λ (p : programs.Program). T p (fails (fault_of c.in-Named.fault))) e (subst (λ (f : RunFault). SaysEnd (T (program_of (program_in c.relation.new.engine).now)) (Err f)) c.in-Named.is c.in-Err.ensures.end) in (
      refl,
      record { relation = R; known = known; end = fails (fault_of c.in-Named.fault); runs = runs; written = run_fails refl refl },
    )

pub returns-in_ok-write_branches-in-Branches-clause-answer : goal.returns-in_ok-write_branches-in-Branches-clause-answer
returns-in_ok-write_branches-in-Branches-clause-answer g c =
    let P : programs.Program = program_of (program_in c.args.engine.now).now in
    let R : Relation = relation_of c.in_ok-relation.relation.now in
    let T : programs.Program → RunEnd → Type 0 = λ p. Runs (AreSteps p R) most_steps (tree_of c.args.t.now) in
    let known : relation_named P c.args.name.now ≡ Some R = c.in_ok-relation.ensures.found in
    let e : program_of (program_in c.relation.new.engine).now ≡ P = ap (λ (q : Bor Program). program_of q.now) c.in_ok-relation.ensures.same in
    let u : Tree = tree_of c.in-Branches.term in
    let runs : T P (branches u) =
    subst (λ (p : programs.Program). T p (branches u)) e (subst (λ (f : RunFault). SaysEnd (T (program_of (program_in c.relation.new.engine).now)) (Err f)) c.in-Branches.is c.in-Err.ensures.end) in
    record {
      text = branches_line u;
      answer = record { relation = R; known = known; end = branches u; runs = runs; written = run_branches refl refl };
      gained = c.in_ok-write_branches-in-Branches.ensures;
    }

pub returns-in_ok-write_bound-in-RunBound-clause-answer : goal.returns-in_ok-write_bound-in-RunBound-clause-answer
returns-in_ok-write_bound-in-RunBound-clause-answer g c =
    let P : programs.Program = program_of (program_in c.args.engine.now).now in
    let R : Relation = relation_of c.in_ok-relation.relation.now in
    let T : programs.Program → RunEnd → Type 0 = λ p. Runs (AreSteps p R) most_steps (tree_of c.args.t.now) in
    let known : relation_named P c.args.name.now ≡ Some R = c.in_ok-relation.ensures.found in
    let e : program_of (program_in c.relation.new.engine).now ≡ P = ap (λ (q : Bor Program). program_of q.now) c.in_ok-relation.ensures.same in
    let runs : T P is_bound =
    subst (λ (p : programs.Program). T p is_bound) e (subst (λ (f : RunFault). SaysEnd (T (program_of (program_in c.relation.new.engine).now)) (Err f)) c.in-RunBound.is c.in-Err.ensures.end) in
    record {
      text = bound_line;
      answer = record { relation = R; known = known; end = is_bound; runs = runs; written = run_is_bound refl refl };
      gained = c.in_ok-write_bound-in-RunBound.ensures;
    }

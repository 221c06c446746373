use Rattle.std.proofs.Common.{ℕ, Bool, List, map, refl, subst}
use Rattle.std.specs.Borrow.{Bor}
use Rattle.rdx_term.specs.Tree.{Tree}
use Rattle.rdx_term.specs.View.{tree_of}
use Rattle.rdx_term.specs.declared.term.Term.{Term}
use Rattle.rdx_lang.specs.ProgramView.{program_of}
use Rattle.rdx_lang.specs.Programs as programs
use Rattle.rdx_lang.specs.TemplateView.{host_of}
use Rattle.rdx_lang.specs.Templates.{Host}
use Rattle.rdx_lang.specs.declared.program.Program.{Program}
use Rattle.rdx_eval.specs.Views.{program_in, terms_in}
use Rattle.rdx_answer.specs.Answering.{HostValues, OverEach, over_first_fault}
use Rattle.rdx_answer.specs.Inside.Appending.{Tries}
use Rattle.rdx_answer.specs.TestAnswers.{IsStepTestAnswer}
use Rattle.rdx_answer.proofs.OverHosts.{each_tried}
use Rattle.rdx_answer.proofs.Trying.{error_tried}
use Rattle.rdx_answer.proofs.test_answers.answer_step_test.Goals as goal

pub returns-in_err-wanted-clause-answer : goal.returns-in_err-wanted-clause-answer
returns-in_err-wanted-clause-answer g c =
    let P : programs.Program = program_of (program_in c.args.engine.now).now in
    let hs : List Host = map host_of c.args.wanted.now in
    error_tried terms_in (HostValues P hs) (OverEach P hs (IsStepTestAnswer P c.args.name.now (tree_of c.args.t.now))) c.args.out.now.items
    c.from_residual.result _ c.from_residual.ensures.1
    (λ f h. over_first_fault f h refl refl) c.in_err-wanted.ensures.answer

pub returns-clause-answer : goal.returns-clause-answer
returns-clause-answer g c =
    let P : programs.Program = program_of (program_in c.args.engine.now).now in
    let t : Tree = tree_of c.args.t.now in
    let before : List ℕ = c.args.out.now.items in
    let after : List ℕ = c.compare_steps.new.out.items in
    let W : List Tree → List ℕ → Bool → Type 0 = IsStepTestAnswer P c.args.name.now t in
    let found : Tries (W (map tree_of c.deref.result.now)) before after c.compare_steps.result =
    subst (λ (p : Bor Program). Tries (IsStepTestAnswer (program_of p.now) c.args.name.now t (map tree_of c.deref.result.now)) before after c.compare_steps.result)
    c.in_ok-wanted.ensures.same c.compare_steps.ensures.answer in
    each_tried P (map host_of c.args.wanted.now) W (terms_in c.in_ok-wanted.wanted) before after c.compare_steps.result
    c.in_ok-wanted.ensures.answer
    (subst (λ (ts : List Term). Tries (W (map tree_of ts)) before after c.compare_steps.result) c.deref.ensures.value found)

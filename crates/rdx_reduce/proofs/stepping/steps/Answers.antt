use Rattle.std.proofs.Common.{◌≡◌, ◌∙◌, Option, Some, ap, subst, sym}
use Rattle.std.specs.Borrow.{Bor}
use Rattle.std.specs.Prelude.{Err}
use Rattle.rdx_term.specs.Tree.{Tree}
use Rattle.rdx_term.specs.View.{tree_of}
use Rattle.rdx_lang.specs.Checked.{language_in}
use Rattle.rdx_lang.specs.Patterns.{Language}
use Rattle.rdx_lang.specs.ProgramView.{program_of, relation_of}
use Rattle.rdx_lang.specs.Programs.{language_named}
use Rattle.rdx_lang.specs.Programs as model
use Rattle.rdx_lang.specs.declared.program.Program.{Program}
use Rattle.rdx_eval.specs.Answers.{value, fault, not_contract, stops, goes, lists}
use Rattle.rdx_eval.specs.Asking.{AskedIf}
use Rattle.rdx_eval.specs.Calls.{Calls}
use Rattle.rdx_eval.specs.Heights.{calls_at, height}
use Rattle.rdx_eval.specs.Languages.{language_found}
use Rattle.rdx_eval.specs.Views.{Says, program_in}
use Rattle.rdx_eval.specs.declared.fault.Side.TheVariants as sides
use Rattle.rdx_eval.proofs.ContractLaws.{asked-passed, asked-stops}
use Rattle.rdx_eval.proofs.SaidOn.{error_said_on}
use Rattle.rdx_reduce.specs.Relations.{StepsOver, AreSteps}
use Rattle.rdx_reduce.specs.StepView.{steps_in}
use Rattle.rdx_reduce.specs.Steps.{AllSteps, Listed}
use Rattle.rdx_reduce.proofs.stepping.steps.Goals as goal

pub ask_domain-requires : goal.ask_domain-requires
ask_domain-requires g c =
    let x = c.args.relation.now.language in
    let L : Language = language_in c.in-Some.language.now in
    let e : Some L ≡ language_named (program_of (program_in c.args.engine.now).now) x =
    sym (ap language_found c.in-Some.is) ∙ c.in_ok-language.ensures.found in
    subst (λ (p : Bor Program). language_named (program_of p.now) x ≡ Some L) (sym c.language.ensures.same) (sym e)

pub all_steps-requires : goal.all_steps-requires
all_steps-requires g c =
    let x = c.args.relation.now.language in
    let L : Language = language_in c.in-Some.language.now in
    let e : Some L ≡ language_named (program_of (program_in c.args.engine.now).now) x =
    sym (ap language_found c.in-Some.is) ∙ c.in_ok-language.ensures.found in
    subst (λ (p : Bor Program). language_named (program_of p.now) x ≡ Some L) (sym (c.ask_domain.ensures.same ∙ c.language.ensures.same)) (sym e)

pub returns-in_err-ask_domain-clause-answer : goal.returns-in_err-ask_domain-clause-answer
returns-in_err-ask_domain-clause-answer g c =
    let P : model.Program = program_of (program_in c.args.engine.now).now in
    let L : Language = language_in c.in-Some.language.now in
    let C : Calls = calls_at P height in
    let R : model.Relation = relation_of c.args.relation.now in
    let t : Tree = tree_of c.args.t.now in
    let e : Some L ≡ language_named P R.language = sym (ap language_found c.in-Some.is) ∙ c.in_ok-language.ensures.found in
    error_said_on (λ x. x) steps_in (AskedIf L R.domain t (not_contract R.name sides.In t) (λ a. a ≡ value tt)) (AreSteps P R t)
    c.from_residual-in_err-ask_domain.result _ c.from_residual-in_err-ask_domain.ensures.1
    (λ f h. subst (λ (o : Option Language). StepsOver o C R t (fault f)) e
    (asked-stops L R.domain t (not_contract R.name sides.In t) (Listed L C R t) f h))
    c.in_err-ask_domain.ensures.answer

pub returns-in_err-found-clause-answer : goal.returns-in_err-found-clause-answer
returns-in_err-found-clause-answer g c =
    let P : model.Program = program_of (program_in c.args.engine.now).now in
    let L : Language = language_in c.in-Some.language.now in
    let C : Calls = calls_at P height in
    let R : model.Relation = relation_of c.args.relation.now in
    let t : Tree = tree_of c.args.t.now in
    let e : Some L ≡ language_named P R.language = sym (ap language_found c.in-Some.is) ∙ c.in_ok-language.ensures.found in
    error_said_on steps_in steps_in (AllSteps L C R t 0 R.rules) (AreSteps P R t)
    c.from_residual-in_err-found.result _ c.from_residual-in_err-found.ensures.1
    (λ f h. subst (λ (o : Option Language). StepsOver o C R t (fault f)) e
    (asked-passed L R.domain t (not_contract R.name sides.In t) (Listed L C R t) (fault f) c.in_ok-ask_domain.ensures.answer (stops h)))
    (subst (λ (p : Bor Program). Says steps_in (AllSteps L (calls_at (program_of p.now) height) R t 0 R.rules) (Err c.in_err-found.field-0.0))
    (c.ask_domain.ensures.same ∙ c.language.ensures.same) c.in_err-found.ensures.answer)

pub returns-clause-answer : goal.returns-clause-answer
returns-clause-answer g c =
    let P : model.Program = program_of (program_in c.args.engine.now).now in
    let L : Language = language_in c.in-Some.language.now in
    let C : Calls = calls_at P height in
    let R : model.Relation = relation_of c.args.relation.now in
    let t : Tree = tree_of c.args.t.now in
    let e : Some L ≡ language_named P R.language = sym (ap language_found c.in-Some.is) ∙ c.in_ok-language.ensures.found in
    let all : AllSteps L C R t 0 R.rules (value (steps_in c.in_ok-found.found)) =
    subst (λ (p : Bor Program). AllSteps L (calls_at (program_of p.now) height) R t 0 R.rules (value (steps_in c.in_ok-found.found)))
    (c.ask_domain.ensures.same ∙ c.language.ensures.same) c.in_ok-found.ensures.answer in
    subst (λ (o : Option Language). StepsOver o C R t (value (steps_in c.in_ok-listing.field-0))) e
    (asked-passed L R.domain t (not_contract R.name sides.In t) (Listed L C R t) (value (steps_in c.in_ok-listing.field-0))
    c.in_ok-ask_domain.ensures.answer (goes all (lists c.in_ok-listing.ensures)))

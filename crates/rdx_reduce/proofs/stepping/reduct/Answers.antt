use Rattle.std.proofs.Common.{◌≡◌, refl}
use Rattle.rdx_term.specs.Tree.{Tree}
use Rattle.rdx_term.specs.View.{tree_of}
use Rattle.rdx_lang.specs.Bindings as bindings
use Rattle.rdx_lang.specs.Checked.{language_in}
use Rattle.rdx_lang.specs.Patterns.{Language}
use Rattle.rdx_lang.specs.ProgramView.{program_of, relation_of, rule_of}
use Rattle.rdx_lang.specs.Programs as model
use Rattle.rdx_lang.specs.Shown.{binding_of}
use Rattle.rdx_eval.specs.Answers.{value, not_contract, stops, goes}
use Rattle.rdx_eval.specs.Asking.{AskedIf}
use Rattle.rdx_eval.specs.Calls.{Calls}
use Rattle.rdx_eval.specs.Heights.{calls_at, height}
use Rattle.rdx_eval.specs.Instantiation.{Makes}
use Rattle.rdx_eval.specs.Views.{program_in}
use Rattle.rdx_eval.specs.declared.fault.Side.TheVariants as sides
use Rattle.rdx_eval.proofs.ContractLaws.{asked-passed, asked-stops}
use Rattle.rdx_eval.proofs.SaidOn.{error_said_on}
use Rattle.rdx_reduce.specs.Steps.{Reducts}
use Rattle.rdx_reduce.proofs.stepping.reduct.Goals as goal

pub returns-in_err-u-clause-answer : goal.returns-in_err-u-clause-answer
returns-in_err-u-clause-answer g c =
    let L : Language = language_in c.args.language.now in
    let C : Calls = calls_at (program_of (program_in c.args.engine.now).now) height in
    let R : model.Relation = relation_of c.args.relation.now in
    let r : model.Rule = rule_of c.args.rule.now in
    let b : bindings.Binding = binding_of c.args.b.now in
    error_said_on tree_of tree_of (Makes C b r.result) (Reducts L C R r b) c.from_residual.result _ c.from_residual.ensures.1 (λ f h. stops h)
    c.in_err-u.ensures.answer

pub returns-in_err-ask_domain-clause-answer : goal.returns-in_err-ask_domain-clause-answer
returns-in_err-ask_domain-clause-answer g c =
    let L : Language = language_in c.args.language.now in
    let C : Calls = calls_at (program_of (program_in c.args.engine.now).now) height in
    let R : model.Relation = relation_of c.args.relation.now in
    let r : model.Rule = rule_of c.args.rule.now in
    let b : bindings.Binding = binding_of c.args.b.now in
    let u : Tree = tree_of c.in_ok-u.u in
    error_said_on (λ x. x) tree_of (AskedIf L R.domain u (not_contract R.name sides.Out u) (λ a. a ≡ value tt)) (Reducts L C R r b)
    c.from_residual-in_err-ask_domain.result _ c.from_residual-in_err-ask_domain.ensures.1
    (λ f h. goes c.in_ok-u.ensures.answer (asked-stops L R.domain u (not_contract R.name sides.Out u) (λ a. a ≡ value u) f h))
    c.in_err-ask_domain.ensures.answer

pub returns-clause-answer : goal.returns-clause-answer
returns-clause-answer g c =
    let L : Language = language_in c.args.language.now in
    let R : model.Relation = relation_of c.args.relation.now in
    let u : Tree = tree_of c.in_ok-u.u in
    goes c.in_ok-u.ensures.answer
    (asked-passed L R.domain u (not_contract R.name sides.Out u) (λ a. a ≡ value u) (value u) c.in_ok-ask_domain.ensures.answer refl)

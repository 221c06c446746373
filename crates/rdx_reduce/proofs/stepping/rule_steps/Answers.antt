use Rattle.std.proofs.Common.{◌≡◌, ℕ, ◌+◌, List, [], ◌∷◌, ◌++◌, drop, map, refl, sym, ◌∙◌, ap, subst}
use Rattle.std.proofs.lemmas.List.{map-append}
use Rattle.std.specs.Borrow.{Bor}
use Rattle.rdx_term.specs.Tree.{Tree}
use Rattle.rdx_term.specs.View.{tree_of}
use Rattle.rdx_lang.specs.Bindings.{Binding}
use Rattle.rdx_lang.specs.Checked.{language_in}
use Rattle.rdx_lang.specs.Patterns.{Language}
use Rattle.rdx_lang.specs.ProgramView.{program_of, relation_of, rule_of}
use Rattle.rdx_lang.specs.Programs.{Relation, Rule}
use Rattle.rdx_lang.specs.Shown.{binding_of, bindings_of}
use Rattle.rdx_lang.specs.declared.binding.Binding as code_binding
use Rattle.rdx_lang.specs.declared.program.Program.{Program}
use Rattle.rdx_lang.proofs.Rest.{rest_at, rest_none}
use Rattle.rdx_eval.specs.Answers.{Answer, value, fault, stops, goes, Single}
use Rattle.rdx_eval.specs.Calls.{Calls}
use Rattle.rdx_eval.specs.Extending.{Survivors}
use Rattle.rdx_eval.specs.Heights.{calls_at, height}
use Rattle.rdx_eval.specs.Views.{bindings_in, program_in}
use Rattle.rdx_eval.proofs.Gathered.{gathers-next, gathers-fault, gathers-end}
use Rattle.rdx_eval.proofs.SaidOn.{error_said_on}
use Rattle.rdx_reduce.specs.StepView.{step_of, steps_in}
use Rattle.rdx_reduce.specs.Steps.{Step, Reducts, StepBy, RuleSteps}
use Rattle.rdx_reduce.specs.declared.step.Step as code_step
use Rattle.rdx_reduce.proofs.stepping.rule_steps.Goals as goal

pub returns-in_err-bs-clause-answer : goal.returns-in_err-bs-clause-answer
returns-in_err-bs-clause-answer g c =
    let L : Language = language_in c.args.language.now in
    let C : Calls = calls_at (program_of (program_in c.args.engine.now).now) height in
    let t : Tree = tree_of c.args.t.now in
    let R : Relation = relation_of c.args.relation.now in
    let r : Rule = rule_of c.args.rule.now in
    error_said_on bindings_in steps_in (Survivors L C t r.pattern r.extras) (RuleSteps L C R t c.args.place r)
    c.from_residual.result _ c.from_residual.ensures.1 (λ f h. stops h) c.in_err-bs.ensures.answer

pub returns-in_err-u-clause-answer : goal.returns-in_err-u-clause-answer
returns-in_err-u-clause-answer g c =
    let L : Language = language_in c.args.language.now in
    let C : Calls = calls_at (program_of (program_in c.args.engine.now).now) height in
    let t : Tree = tree_of c.args.t.now in
    let R : Relation = relation_of c.args.relation.now in
    let r : Rule = rule_of c.args.rule.now in
    let S : Binding → Answer (List Step) → Type 0 = λ b. Single (StepBy L C R c.args.place r b) in
    let xs = c.deref-b-items.result.now in
    let i : ℕ = c.loop-b.b-index in
    let x = c.b-item.result in
    let e : bindings_of (drop i xs) ≡ binding_of x ∷ bindings_of (drop (i + 1) xs) = rest_at binding_of xs i x c.loop-b-test.true c.b-item.is in
    let found : Survivors L C t r.pattern r.extras (value (bindings_of xs)) =
    subst (λ (ys : List code_binding.Binding). Survivors L C t r.pattern r.extras (value (bindings_of ys))) (sym c.deref-b-items.ensures.value) c.in_ok-bs.ensures.answer in
    error_said_on tree_of steps_in (Reducts L (calls_at (program_of (program_in c.loop-b.engine).now) height) R r (binding_of x))
    (RuleSteps L C R t c.args.place r) c.from_residual-in_err-u.result _ c.from_residual-in_err-u.ensures.1
    (λ f h. goes found (gathers-fault S (bindings_of xs) (binding_of x) _ _ (steps_in c.loop-b.found) f e
    (stops (stops (subst (λ (p : Bor Program). Reducts L (calls_at (program_of p.now) height) R r (binding_of x) (fault f)) c.loop-b.invariant.same h)))
    c.loop-b.invariant.gathers))
    c.in_err-u.ensures.answer

pub loop-b-preserved : goal.loop-b-preserved
loop-b-preserved g c =
    let L : Language = language_in c.args.language.now in
    let C : Calls = calls_at (program_of (program_in c.args.engine.now).now) height in
    let R : Relation = relation_of c.args.relation.now in
    let r : Rule = rule_of c.args.rule.now in
    let S : Binding → Answer (List Step) → Type 0 = λ b. Single (StepBy L C R c.args.place r b) in
    let xs = c.deref-b-items.result.now in
    let i : ℕ = c.loop-b.b-index in
    let x = c.b-item.result in
    let e : bindings_of (drop i xs) ≡ binding_of x ∷ bindings_of (drop (i + 1) xs) = rest_at binding_of xs i x c.loop-b-test.true c.b-item.is in
    let u : Tree = tree_of c.in_ok-u.u in
    let s : Step = record { rule = c.args.place; reduct = u } in
    let n : code_step.Step = record { rule = c.args.place; reduct = c.in_ok-u.u } in
    let d : steps_in c.push.new.self ≡ steps_in c.loop-b.found ++ s ∷ [] =
    ap (λ (ns : List code_step.Step). map step_of ns) c.in_ok-push.ensures.items ∙ map-append step_of c.loop-b.found.items (n ∷ []) in
    let h : Reducts L C R r (binding_of x) (value u) =
    subst (λ (p : Bor Program). Reducts L (calls_at (program_of p.now) height) R r (binding_of x) (value u)) c.loop-b.invariant.same c.in_ok-u.ensures.answer in
    record {
      same = c.reduct.ensures.same ∙ c.loop-b.invariant.same;
      gathers = gathers-next S (bindings_of xs) (binding_of x) _ _ (steps_in c.loop-b.found) (s ∷ []) (steps_in c.push.new.self) e d
          (goes (goes h refl) refl) c.loop-b.invariant.gathers;
    }

pub returns-clause-answer : goal.returns-clause-answer
returns-clause-answer g c =
    let L : Language = language_in c.args.language.now in
    let C : Calls = calls_at (program_of (program_in c.args.engine.now).now) height in
    let t : Tree = tree_of c.args.t.now in
    let R : Relation = relation_of c.args.relation.now in
    let r : Rule = rule_of c.args.rule.now in
    let S : Binding → Answer (List Step) → Type 0 = λ b. Single (StepBy L C R c.args.place r b) in
    let xs = c.deref-b-items.result.now in
    let found : Survivors L C t r.pattern r.extras (value (bindings_of xs)) =
    subst (λ (ys : List code_binding.Binding). Survivors L C t r.pattern r.extras (value (bindings_of ys))) (sym c.deref-b-items.ensures.value) c.in_ok-bs.ensures.answer in
    goes found (gathers-end S (bindings_of xs) _ (steps_in c.loop-b.found) (rest_none binding_of xs c.loop-b.b-index c.loop-b-test.false) c.loop-b.invariant.gathers)

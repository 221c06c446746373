use Rattle.std.proofs.Common.{arith, ◌≡◌, ℕ, ◌+◌, List, ◌∷◌, ◌++◌, drop, map, ◌∙◌, subst}
use Rattle.std.proofs.lemmas.Grind.{common_steps}
use Rattle.std.specs.Borrow.{Bor}
use Rattle.rdx_term.specs.Tree.{Tree}
use Rattle.rdx_term.specs.View.{tree_of}
use Rattle.rdx_lang.specs.Checked.{language_in}
use Rattle.rdx_lang.specs.Patterns.{Language}
use Rattle.rdx_lang.specs.ProgramView.{program_of, relation_of, rule_of}
use Rattle.rdx_lang.specs.Programs.{Relation, Rule}
use Rattle.rdx_lang.specs.declared.program.Program.{Program}
use Rattle.rdx_lang.specs.declared.program.Rule as code_rule
use Rattle.rdx_eval.specs.Answers.{value, fault}
use Rattle.rdx_eval.specs.Calls.{Calls}
use Rattle.rdx_eval.specs.Heights.{calls_at, height}
use Rattle.rdx_eval.specs.Views.{program_in}
use Rattle.rdx_eval.proofs.Gathered.{gathers-next, gathers-fault, gathers-end}
use Rattle.rdx_eval.proofs.SaidOn.{error_said_on}
use Rattle.rdx_reduce.specs.StepView.{steps_in}
use Rattle.rdx_reduce.specs.Steps.{RuleSteps, AllSteps}
use Rattle.rdx_reduce.proofs.NumberedRules.{numbered, numbered-at, numbered-none, StepsAt, all_gathered}
use Rattle.rdx_reduce.proofs.stepping.all_steps.Goals as goal

pub returns-in_err-more-clause-answer : goal.returns-in_err-more-clause-answer
returns-in_err-more-clause-answer g c =
    let L : Language = language_in c.args.language.now in
    let C : Calls = calls_at (program_of (program_in c.args.engine.now).now) height in
    let t : Tree = tree_of c.args.t.now in
    let R : Relation = relation_of c.args.relation.now in
    let xs = c.deref-rule-items.result.now in
    let rs : List Rule = map rule_of xs in
    let i : ℕ = c.loop-place.place in
    let x = c.rule-item.result in
    let r : Rule = rule_of x in
    let e : numbered i (map rule_of (drop i xs)) ≡ (i, r) ∷ numbered (i + 1) (map rule_of (drop (i + 1) xs)) =
    numbered-at rule_of xs i x c.loop-place-test.true c.rule-item.is in
    error_said_on steps_in steps_in (RuleSteps L (calls_at (program_of (program_in c.loop-place.engine).now) height) R t i r) (AllSteps L C R t 0 R.rules)
    c.from_residual.result _ c.from_residual.ensures.1
    (λ f h. subst (λ (ys : List code_rule.Rule). AllSteps L C R t 0 (map rule_of ys) (fault f)) c.deref-rule-items.ensures.value
    (all_gathered L C R t 0 rs (fault f) (gathers-fault (StepsAt L C R t) (numbered 0 rs) (i, r) _ _ (steps_in c.loop-place.found) f e
    (subst (λ (p : Bor Program). RuleSteps L (calls_at (program_of p.now) height) R t i r (fault f)) c.loop-place.invariant.same h) c.loop-place.invariant.gathers)))
    c.in_err-more.ensures.answer

pub loop-place-preserved : goal.loop-place-preserved
loop-place-preserved g c =
    let L : Language = language_in c.args.language.now in
    let C : Calls = calls_at (program_of (program_in c.args.engine.now).now) height in
    let t : Tree = tree_of c.args.t.now in
    let R : Relation = relation_of c.args.relation.now in
    let xs = c.deref-rule-items.result.now in
    let i : ℕ = c.loop-place.place in
    let x = c.rule-item.result in
    let r : Rule = rule_of x in
    let e : numbered i (map rule_of (drop i xs)) ≡ (i, r) ∷ numbered (i + 1) (map rule_of (drop (i + 1) xs)) =
    numbered-at rule_of xs i x c.loop-place-test.true c.rule-item.is in
    let d : steps_in c.append.new.self ≡ steps_in c.loop-place.found ++ steps_in c.in_ok-more.more = grind (arith, common_steps) in
    let h : RuleSteps L C R t i r (value (steps_in c.in_ok-more.more)) =
    subst (λ (p : Bor Program). RuleSteps L (calls_at (program_of p.now) height) R t i r (value (steps_in c.in_ok-more.more))) c.loop-place.invariant.same c.in_ok-more.ensures.answer in
    record {
      same = c.rule_steps.ensures.same ∙ c.loop-place.invariant.same;
      gathers = gathers-next (StepsAt L C R t) (numbered 0 (map rule_of xs)) (i, r) _ _ (steps_in c.loop-place.found) (steps_in c.in_ok-more.more) (steps_in c.append.new.self) e d h c.loop-place.invariant.gathers;
    }

pub returns-clause-answer : goal.returns-clause-answer
returns-clause-answer g c =
    let L : Language = language_in c.args.language.now in
    let C : Calls = calls_at (program_of (program_in c.args.engine.now).now) height in
    let t : Tree = tree_of c.args.t.now in
    let R : Relation = relation_of c.args.relation.now in
    let xs = c.deref-rule-items.result.now in
    subst (λ (ys : List code_rule.Rule). AllSteps L C R t 0 (map rule_of ys) (value (steps_in c.loop-place.found))) c.deref-rule-items.ensures.value
    (all_gathered L C R t 0 (map rule_of xs) (value (steps_in c.loop-place.found))
    (gathers-end (StepsAt L C R t) (numbered 0 (map rule_of xs)) _ (steps_in c.loop-place.found)
    (numbered-none rule_of xs c.loop-place.place c.loop-place-test.false) c.loop-place.invariant.gathers))

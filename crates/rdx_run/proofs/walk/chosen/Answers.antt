use Rattle.std.proofs.Common.{◌∙◌, Some, sym, ap}
use Rattle.std.specs.Prelude.{map, option_map}
use Rattle.rdx_reduce.specs.StepView.{step_of}
use Rattle.rdx_reduce.specs.Steps.{Step}
use Rattle.rdx_run.specs.Walks.{chosen}
use Rattle.rdx_run.proofs.Taken.{chosen-zero, chosen-some, chosen-none}
use Rattle.rdx_run.proofs.walk.chosen.Goals as goal

pub returns-then-choice-eq0 : goal.returns-then-choice-eq0
returns-then-choice-eq0 c =
    let ss = c.args.steps.now in
    sym (ap (λ k. option_map (λ s. s.reduct) (chosen k (map step_of ss))) c.if-choice-eq0.true ∙ ap (option_map (λ (s : Step). s.reduct)) (chosen-zero ss))

pub returns-in_ok-share-in-Some : goal.returns-in_ok-share-in-Some
returns-in_ok-share-in-Some c =
    let l = c.in-Some.ensures.lookup in
    ap Some c.in_ok-share-in-Some.ensures
    ∙ sym (ap (option_map (λ (s : Step). s.reduct)) (chosen-some c.args.choice c.args.steps.now c.in-Some.step.now c.if-choice-eq0.false l.3.0 l.1))

pub returns-in-None : goal.returns-in-None
returns-in-None c =
    let l = c.in-None.ensures.lookup in
    sym (ap (option_map (λ (s : Step). s.reduct)) (chosen-none c.args.choice c.args.steps.now c.if-choice-eq0.false l.3))

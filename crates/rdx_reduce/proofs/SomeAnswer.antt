-- In languages that are free of left recursion a relation has a listing of its steps, or a fault.
use Rattle.std.proofs.Common.{ℕ, suc, List, [], ◌∷◌}
use Rattle.rdx_term.specs.Tree.{Tree}
use Rattle.rdx_lang.specs.Bindings.{Binding}
use Rattle.rdx_lang.specs.Edges.{IsFree}
use Rattle.rdx_lang.specs.Patterns.{Language}
use Rattle.rdx_lang.specs.Programs.{Relation, Rule}
use Rattle.rdx_eval.specs.Answers.{value, not_contract, Single}
use Rattle.rdx_eval.specs.Calls.{Calls}
use Rattle.rdx_eval.specs.Extending.{Survivors}
use Rattle.rdx_eval.specs.Instantiation.{Makes}
use Rattle.rdx_eval.specs.Laws.{HasAnswer}
use Rattle.rdx_eval.specs.declared.fault.Side.TheVariants as sides
use Rattle.rdx_eval.proofs.SomeAnswer.{some-gives, some-then, some-both, some-gather, some-single, some-lists, some-inst, some-survivors, some-asked, some-passed}
use Rattle.rdx_reduce.specs.Model.TotalOrder.{step_cmp-total}
use Rattle.rdx_reduce.specs.Steps.{step_cmp, Reducts, StepBy, RuleSteps, AllSteps, Listed, Steps}
use Rattle.rdx_reduce.proofs.StepOrder.{step_cmp-tells}

module _ (L : Language) (free : IsFree L) (C : Calls) (calls : (f : List ℕ) (a : Tree) → HasAnswer (C.value_of f a))
    (outputs : (j : List ℕ) (a : Tree) → HasAnswer (C.outputs_of j a)) (R : Relation) (t : Tree) where
  -- the reduct by a rule with a binding
  some-reduct : (r : Rule) (b : Binding) → HasAnswer (Reducts L C R r b)
  some-reduct r b =
      some-then (Makes C b r.result) _ (some-inst C calls b [] r.result) (λ u. some-passed L free R.domain u (not_contract R.name sides.Out u))

  -- the step by it
  some-step : (i : ℕ) (r : Rule) (b : Binding) → HasAnswer (StepBy L C R i r b)
  some-step i r b = some-then (Reducts L C R r b) _ (some-reduct r b) (λ u. some-gives (value (record { rule = i; reduct = u })))

  -- the steps by a rule
  some-rule : (i : ℕ) (r : Rule) → HasAnswer (RuleSteps L C R t i r)
  some-rule i r =
      some-then (Survivors L C t r.pattern r.extras) _ (some-survivors L free C calls outputs t r.pattern r.extras)
      (some-gather (λ b. Single (StepBy L C R i r b)) (λ b. some-single (StepBy L C R i r b) (some-step i r b)))

  -- the steps by all rules
  some-all : (i : ℕ) (rs : List Rule) → HasAnswer (AllSteps L C R t i rs)
  some-all i [] = some-gives (value [])
  some-all i (r ∷ rs) = some-both (RuleSteps L C R t i r) (AllSteps L C R t (suc i) rs) (some-rule i r) (some-all (suc i) rs)

  -- their listing, where the term is in the domain
  pub some-steps : HasAnswer (Steps L C R t)
  some-steps =
      some-asked L free R.domain t (not_contract R.name sides.In t) (Listed L C R t)
      (some-then (AllSteps L C R t 0 R.rules) _ (some-all 0 R.rules) (some-lists step_cmp step_cmp-total step_cmp-tells))

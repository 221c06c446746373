-- A relation has one listing of its steps at most, or one fault.
use Rattle.std.proofs.Common.{ℕ, suc, List, [], ◌∷◌}
use Rattle.rdx_term.specs.Tree.{Tree}
use Rattle.rdx_lang.specs.Bindings.{Binding}
use Rattle.rdx_lang.specs.Members.{In}
use Rattle.rdx_lang.specs.Patterns.{Language}
use Rattle.rdx_lang.specs.Programs.{Relation, Rule}
use Rattle.rdx_eval.specs.Answers.{value, not_contract, Single}
use Rattle.rdx_eval.specs.Calls.{Calls}
use Rattle.rdx_eval.specs.Extending.{Survivors}
use Rattle.rdx_eval.specs.Instantiation.{Makes}
use Rattle.rdx_eval.specs.Laws.{Once}
use Rattle.rdx_eval.specs.declared.fault.Side.TheVariants as sides
use Rattle.rdx_eval.proofs.OneAnswer.{once-gives, once-then, once-both, once-gather, once-single, once-lists, once-inst, once-survivors, once-asked, once-passed}
use Rattle.rdx_reduce.specs.Model.TotalOrder.{step_cmp-total}
use Rattle.rdx_reduce.specs.Steps.{step_cmp, Reducts, StepBy, RuleSteps, AllSteps, Listed, Steps}

module _ (L : Language) (C : Calls) (calls : (f : List ℕ) (a : Tree) → Once (C.value_of f a)) (R : Relation) where
  -- the reduct by a rule with a binding
  pub once-reduct : (r : Rule) (b : Binding) → Once (Reducts L C R r b)
  once-reduct r b =
      once-then (Makes C b r.result) _ (once-inst C calls b [] r.result) (λ u. once-passed L R.domain u (not_contract R.name sides.Out u))

  -- the step by it
  once-step : (i : ℕ) (r : Rule) (b : Binding) → Once (StepBy L C R i r b)
  once-step i r b = once-then (Reducts L C R r b) _ (once-reduct r b) (λ u. once-gives (value (record { rule = i; reduct = u })))

  module _ (outputs : (j : List ℕ) (a : Tree) → Once (C.outputs_of j a)) (t : Tree) where
    -- the steps by a rule
    once-rule : (i : ℕ) (r : Rule) → Once (RuleSteps L C R t i r)
    once-rule i r =
        once-then (Survivors L C t r.pattern r.extras) _ (once-survivors L C calls outputs t r.pattern r.extras)
        (once-gather (λ b. Single (StepBy L C R i r b)) (λ b. once-single (StepBy L C R i r b) (once-step i r b)))

    -- the steps by all rules
    once-all : (i : ℕ) (rs : List Rule) → Once (AllSteps L C R t i rs)
    once-all i [] = once-gives (value [])
    once-all i (r ∷ rs) = once-both (RuleSteps L C R t i r) (AllSteps L C R t (suc i) rs) (once-rule i r) (once-all (suc i) rs)

    -- their listing, where the term is in the domain
    pub once-steps : Once (Steps L C R t)
    once-steps =
        once-asked L R.domain t (not_contract R.name sides.In t) (Listed L C R t)
        (once-then (AllSteps L C R t 0 R.rules) _ (once-all 0 R.rules) (λ ss. once-lists step_cmp (λ s. In s ss) step_cmp-total))

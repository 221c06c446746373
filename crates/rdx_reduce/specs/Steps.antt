-- The steps that a relation takes from a term (after Felleisen, Findler and Flatt, "Semantics Engineering with PLT Redex", 2009; the Redex
-- reference manual, "Reduction Relations"): each rule, in its order, by each binding of its pattern that meets its extras; what the result of
-- the rule makes of the binding is the reduct. Where the relation has a domain, the term and each reduct have to be in it: that the term is not comes
-- before all other faults, and that a reduct is not is a fault at the place where it is made.
use Rattle.std.specs.Prelude.{◌≡◌, ℕ, suc, List, [], ◌∷◌, ◌++◌}
use Rattle.std.specs.Ordering.{ordering_then, nat_cmp}
use Rattle.std.specs.declared.cmp.Ordering.{Ordering}
use Rattle.rdx_term.specs.Order.{tree_cmp}
use Rattle.rdx_term.specs.Tree.{Tree}
use Rattle.rdx_lang.specs.Bindings.{Binding}
use Rattle.rdx_lang.specs.Members.{In}
use Rattle.rdx_lang.specs.Patterns.{Language}
use Rattle.rdx_lang.specs.Programs.{Relation, Rule}
use Rattle.rdx_eval.specs.Answers.{Answer, value, not_contract, Then, Gather, Single, Lists}
use Rattle.rdx_eval.specs.Calls.{Calls}
use Rattle.rdx_eval.specs.Asking.{AskedIf}
use Rattle.rdx_eval.specs.Extending.{Survivors}
use Rattle.rdx_eval.specs.Instantiation.{Makes}
use Rattle.rdx_eval.specs.declared.fault.Side.TheVariants as sides

-- a step: the place of its rule, from 0, and the term that it leads to
pub record Step : Type 0 where
  pub rule : ℕ
  pub reduct : Tree

-- steps by their rules, and then by the terms that they lead to
abbrev pub step_cmp : Step → Step → Ordering
step_cmp s u = ordering_then (nat_cmp s.rule u.rule) (tree_cmp s.reduct u.reduct)

-- what the result of a rule of R makes of a binding, where it is in the domain of R, if R has one
abbrev pub Reducts : Language → Calls → Relation → Rule → Binding → Answer Tree → Type 0
Reducts L C R r b = Then (Makes C b r.result) (λ u. AskedIf L R.domain u (not_contract R.name sides.Out u) (λ a. a ≡ value u))

-- the step by the rule r of R at place i with one binding
abbrev pub StepBy : Language → Calls → Relation → ℕ → Rule → Binding → Answer Step → Type 0
StepBy L C R i r b = Then (Reducts L C R r b) (λ u a. a ≡ value (record { rule = i; reduct = u }))

-- the steps by the rule r of R at place i, binding by binding of those by which its pattern matches t that meet its extras
abbrev pub RuleSteps : Language → Calls → Relation → Tree → ℕ → Rule → Answer (List Step) → Type 0
RuleSteps L C R t i r = Then (Survivors L C t r.pattern r.extras) (Gather (λ b. Single (StepBy L C R i r b)))

-- the steps by these rules of R, of which the first is at place i, rule by rule
abbrev pub AllSteps : Language → Calls → Relation → Tree → ℕ → List Rule → Answer (List Step) → Type 0
AllSteps L C R t i [] = λ a. a ≡ value []
AllSteps L C R t i (r ∷ rs) =
    Then (RuleSteps L C R t i r) (λ ss. Then (AllSteps L C R t (suc i) rs) (λ us a. a ≡ value (ss ++ us)))

-- all steps by the rules of R, ascending and each once, or the first fault
abbrev pub Listed : Language → Calls → Relation → Tree → Answer (List Step) → Type 0
Listed L C R t = Then (AllSteps L C R t 0 R.rules) (λ ss. Lists step_cmp (λ s. In s ss))

-- the same where t is in the domain of R, if R has one; else that is the fault
abbrev pub Steps : Language → Calls → Relation → Tree → Answer (List Step) → Type 0
Steps L C R t = AskedIf L R.domain t (not_contract R.name sides.In t) (Listed L C R t)

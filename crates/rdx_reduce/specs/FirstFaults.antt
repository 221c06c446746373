-- Which fault is the answer where a relation has one, fault by fault. That the term is not in the domain of the relation is the answer alone. Else a
-- rule meets one where its pattern matches, some of its extras lead on, and the next extra has it there, or, behind all of them, its result: that is
-- what the template of the result has, or that the reduct is not in the domain. Of all that the rules meet the first one is the answer.
use Rattle.std.specs.Prelude.{◌≡◌, ◌↔◌, ◌<◌, ℕ, suc, List, [], ◌∷◌, Some, slice_get}
use Rattle.std.specs.declared.cmp.Ordering.TheVariants.{Less}
use Rattle.rdx_term.specs.Tree.{Tree}
use Rattle.rdx_lang.specs.Bindings.{Binding}
use Rattle.rdx_lang.specs.Listing.{IsSeen}
use Rattle.rdx_lang.specs.Members.{In}
use Rattle.rdx_lang.specs.Order.{binding_cmp}
use Rattle.rdx_lang.specs.Patterns.{Language}
use Rattle.rdx_lang.specs.Programs.{Extra, Program, Relation, Rule}
use Rattle.rdx_lang.specs.Rules.{Match}
use Rattle.rdx_eval.specs.Answers.{Answer, value, fault, Fault, not_contract}
use Rattle.rdx_eval.specs.Calls.{Calls}
use Rattle.rdx_eval.specs.Extending.{By}
use Rattle.rdx_eval.specs.Fresh.{Avoided, avoiding, behind}
use Rattle.rdx_eval.specs.Heights.{calls_at}
use Rattle.rdx_eval.specs.declared.fault.Side.TheVariants as sides
use Rattle.rdx_reduce.specs.Steps.{Step, Reducts, Steps}
use Rattle.rdx_reduce.specs.TakenSteps.{IsInDomain}

-- The first n extras lead from a binding to another one; of that the next extra has the fault, or, where there is none, R has it. Fresh names avoid
-- what a says.
pub data FailsAfter (L : Language) (C : Calls) (R : Binding → Answer Tree → Type 0) : Avoided → List Extra → Binding → ℕ → Binding → Fault → Type 0 where
  in_result : {a : Avoided} {b : Binding} {f : Fault} → R b (fault f) → FailsAfter L C R a [] b 0 b f
  in_extra : {a : Avoided} {e : Extra} {es : List Extra} {b : Binding} {f : Fault} → By L C a e b (fault f) → FailsAfter L C R a (e ∷ es) b 0 b f
  behind_extra : {a : Avoided} {e : Extra} {es : List Extra} {b c d : Binding} {bs : List Binding} {n : ℕ} {f : Fault} →
      By L C a e b (value bs) → In c bs → FailsAfter L C R (behind a e) es c n d f → FailsAfter L C R a (e ∷ es) b (suc n) d f

-- With the term t the rule meets the fault behind so many of its extras, with the binding b there, where S is what its result makes of a binding.
-- The whole term, whose symbols fresh names avoid, is w.
pub record MeetsFault (L : Language) (C : Calls) (S : Rule → Binding → Answer Tree → Type 0) (w t : Tree) (r : Rule) (n : ℕ) (b : Binding) (f : Fault) : Type 0 where
  pub first : Binding
  pub matched : IsSeen (Match L r.pattern t) first
  pub fails : FailsAfter L C (S r) (avoiding w) r.extras first n b f

-- Of all the faults that these rules meet, where M says behind how many of its extras a rule meets one and with which binding, f is the first: by
-- the place of the rule, then by how many of its extras stand before the fault, and then by the binding.
pub record IsFirstMet (M : Rule → ℕ → Binding → Fault → Type 0) (rs : List Rule) (f : Fault) : Type 0 where
  pub place : ℕ
  pub rule : Rule
  pub extras : ℕ
  pub binding : Binding
  pub placed : slice_get rs place ≡ Some rule
  pub met : M rule extras binding f
  pub first_rule : (i : ℕ) (r : Rule) (n : ℕ) (b : Binding) (g : Fault) → i < place → slice_get rs i ≡ Some r → ¬ M r n b g
  pub first_extra : (n : ℕ) (b : Binding) (g : Fault) → n < extras → ¬ M rule n b g
  pub first_binding : (b : Binding) (g : Fault) → binding_cmp b binding ≡ Less → ¬ M rule extras b g

-- the fault f is that the term is not in the domain of the relation
pub record IsOutside (L : Language) (R : Relation) (t : Tree) (f : Fault) : Type 0 where
  pub outside : ¬ IsInDomain L R.domain t
  pub named : f ≡ not_contract R.name sides.In t

-- the term is in the domain of the relation, and f is the first fault that its rules meet, as M says
pub record IsFirstInside (L : Language) (R : Relation) (M : Rule → ℕ → Binding → Fault → Type 0) (rs : List Rule) (t : Tree) (f : Fault) : Type 0 where
  pub inside : IsInDomain L R.domain t
  pub first : IsFirstMet M rs f

-- one or the other
pub data IsFirst (L : Language) (R : Relation) (M : Rule → ℕ → Binding → Fault → Type 0) (rs : List Rule) (t : Tree) (f : Fault) : Type 0 where
  at_term : IsOutside L R t f → IsFirst L R M rs t f
  by_rules : IsFirstInside L R M rs t f → IsFirst L R M rs t f

-- whatever the steps of a relation are answered, it is a fault exactly where this is the first
abbrev pub AnswersFirst : Type 0
AnswersFirst =
    (L : Language) (P : Program) (n : ℕ) (R : Relation) (t : Tree) (f : Fault) (a : Answer (List Step)) → Steps L (calls_at P n) R t a
    → (a ≡ fault f ↔ IsFirst L R (MeetsFault L (calls_at P n) (Reducts L (calls_at P n) R) t t) R.rules t f)

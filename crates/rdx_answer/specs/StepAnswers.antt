-- The answers to queries that ask for the steps of a relation, from the definition of steps alone.
use Rattle.std.specs.Prelude.{◌≡◌, ℕ, zero, suc, List, [], ◌∷◌, Option, Some, None, Bool, IsTrue, IsFalse, map}
use Rattle.rdx_term.specs.Order.{tree_cmp}
use Rattle.rdx_term.specs.Tree.{Tree}
use Rattle.rdx_lang.specs.Listing.{IsListing}
use Rattle.rdx_lang.specs.Members.{In}
use Rattle.rdx_lang.specs.Programs.{Program, Relation, Rule, relation_named}
use Rattle.rdx_eval.specs.Answers.{Answer, Fault, value, fault}
use Rattle.rdx_reduce.specs.Relations.{AreSteps}
use Rattle.rdx_reduce.specs.Steps.{Step}
use Rattle.rdx_answer.specs.AnswerText.{reducts_text, steps_text, fault_line}

-- the terms to which these steps lead, step by step
abbrev pub reducts_in : List Step → List Tree
reducts_in ss = map (λ s. s.reduct) ss

-- the same terms, ascending and each once
abbrev pub AreReducts : List Step → List Tree → Type 0
AreReducts ss ts = IsListing tree_cmp ts (λ t. In t (reducts_in ss))

-- the name of the rule at a place, where there is a rule there and it has one
abbrev pub name_at : List Rule → ℕ → Option (List ℕ)
name_at [] i = None
name_at (r ∷ rs) zero = r.name
name_at (r ∷ rs) (suc i) = name_at rs i

-- steps by these rules, each with the name of its rule
abbrev pub named_steps : List Rule → List Step → List (Option (List ℕ) × Tree)
named_steps rs ss = map (λ s. (name_at rs s.rule, s.reduct)) ss

-- what is written for steps: each term that they lead to, or the fault that there is on the way, by which something stays unmet
pub data WritesReducts : Answer (List Step) → List ℕ → Bool → Type 0 where
  reducts_found : {ss : List Step} {text : List ℕ} {met : Bool} (ts : List Tree) →
      AreReducts ss ts → text ≡ reducts_text ts → IsTrue met → WritesReducts (value ss) text met
  reducts_faulted : {f : Fault} {text : List ℕ} {met : Bool} → text ≡ fault_line f → IsFalse met → WritesReducts (fault f) text met

-- and each step by these rules, with the name of its rule
pub data WritesSteps (rs : List Rule) : Answer (List Step) → List ℕ → Bool → Type 0 where
  steps_found : {ss : List Step} {text : List ℕ} {met : Bool} → text ≡ steps_text (named_steps rs ss) → IsTrue met → WritesSteps rs (value ss) text met
  steps_faulted : {f : Fault} {text : List ℕ} {met : Bool} → text ≡ fault_line f → IsFalse met → WritesSteps rs (fault f) text met

-- `apply-reduction-relation`, by the relation of this name
pub record IsReductsAnswer (P : Program) (name : List ℕ) (t : Tree) (text : List ℕ) (met : Bool) : Type 0 where
  pub relation : Relation
  pub known : relation_named P name ≡ Some relation
  pub answer : Answer (List Step)
  pub steps : AreSteps P relation t answer
  pub written : WritesReducts answer text met

-- `apply-reduction-relation/tag-with-names`, by the relation of this name
pub record IsTaggedAnswer (P : Program) (name : List ℕ) (t : Tree) (text : List ℕ) (met : Bool) : Type 0 where
  pub relation : Relation
  pub known : relation_named P name ≡ Some relation
  pub answer : Answer (List Step)
  pub steps : AreSteps P relation t answer
  pub written : WritesSteps relation.rules answer text met

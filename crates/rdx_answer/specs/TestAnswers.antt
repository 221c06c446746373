-- The answers to tests over terms and over a premise, from the definitions of matching, steps, runs and evaluation alone.
use Rattle.std.specs.Prelude.{◌≡◌, ℕ, Bool, List, [], ◌∷◌, Some, IsTrue, IsFalse}
use Rattle.rdx_term.specs.Tree.{Tree}
use Rattle.rdx_lang.specs.Bindings.{Binding}
use Rattle.rdx_lang.specs.Patterns.{Pattern}
use Rattle.rdx_lang.specs.Programs.{Premise, Program, Relation, relation_named}
use Rattle.rdx_eval.specs.Answers.{Answer, value, fault, Fault}
use Rattle.rdx_eval.specs.Judgements.{are_some}
use Rattle.rdx_reduce.specs.Relations.{AreSteps}
use Rattle.rdx_reduce.specs.Steps.{Step}
use Rattle.rdx_run.specs.Runs as run
use Rattle.rdx_run.specs.Runs.{RunEnd, Runs, most_steps}
use Rattle.rdx_answer.specs.AnswerText.{fault_line, branches_line, bound_line}
use Rattle.rdx_answer.specs.HoldsAnswers.{FindsMet}
use Rattle.rdx_answer.specs.MatchAnswers.{Finds}
use Rattle.rdx_answer.specs.StepAnswers.{reducts_in}
use Rattle.rdx_answer.specs.Tests.{Compares, Counts, verdict_line, as_wanted, results_line}

-- ---- by relations

-- what is written where the terms that steps lead to are compared with those that are wanted, or there is a fault on the way
pub data ComparesSteps (wanted : List Tree) : Answer (List Step) → List ℕ → Bool → Type 0 where
  steps_compared : {ss : List Step} {text : List ℕ} {met : Bool} → Compares (reducts_in ss) wanted text met → ComparesSteps wanted (value ss) text met
  steps_faulted : {f : Fault} {text : List ℕ} {met : Bool} → text ≡ fault_line f → IsFalse met → ComparesSteps wanted (fault f) text met

-- what is written where the term in which a run rests is compared so, or there is none
pub data ComparesEnd (wanted : List Tree) : RunEnd → List ℕ → Bool → Type 0 where
  rest_compared : {t : Tree} {text : List ℕ} {met : Bool} → Compares (t ∷ []) wanted text met → ComparesEnd wanted (run.rests t) text met
  run_fails : {f : Fault} {text : List ℕ} {met : Bool} → text ≡ fault_line f → IsFalse met → ComparesEnd wanted (run.fails f) text met
  run_branches : {t : Tree} {text : List ℕ} {met : Bool} → text ≡ branches_line t → IsFalse met → ComparesEnd wanted (run.branches t) text met
  run_is_bound : {text : List ℕ} {met : Bool} → text ≡ bound_line → IsFalse met → ComparesEnd wanted run.is_bound text met

-- `test-->`, by the relation of this name, from the term t
pub record IsStepTestAnswer (P : Program) (name : List ℕ) (t : Tree) (wanted : List Tree) (text : List ℕ) (met : Bool) : Type 0 where
  pub relation : Relation
  pub known : relation_named P name ≡ Some relation
  pub answer : Answer (List Step)
  pub steps : AreSteps P relation t answer
  pub written : ComparesSteps wanted answer text met

-- `test-->>`, by the relation of this name, from the term t
pub record IsRunTestAnswer (P : Program) (name : List ℕ) (t : Tree) (wanted : List Tree) (text : List ℕ) (met : Bool) : Type 0 where
  pub relation : Relation
  pub known : relation_named P name ≡ Some relation
  pub end : RunEnd
  pub runs : Runs (AreSteps P relation) most_steps t end
  pub written : ComparesEnd wanted end text met

-- ---- by patterns and premises

-- `test-match` and `test-no-match`, in the language of this name: whether the pattern matches the term t is as it is wanted
pub record IsMatchTestAnswer (P : Program) (name : List ℕ) (p : Pattern) (wanted : Bool) (t : Tree) (text : List ℕ) (met : Bool) : Type 0 where
  pub found : List Binding
  pub finds : Finds P name p t found
  pub printed : text ≡ verdict_line (as_wanted wanted (are_some found))
  pub is_met : met ≡ as_wanted wanted (are_some found)

-- what is written for the bindings that meet a premise: that the test passes where there are some, or the fault that there is on the way
pub data WritesVerdict : Answer (List Binding) → List ℕ → Bool → Type 0 where
  verdict_found : {bs : List Binding} {text : List ℕ} {met : Bool} → text ≡ verdict_line (are_some bs) → met ≡ are_some bs
      → WritesVerdict (value bs) text met
  question_faulted : {f : Fault} {text : List ℕ} {met : Bool} → text ≡ fault_line f → IsFalse met → WritesVerdict (fault f) text met

-- `test-judgment-holds`
pub record IsHoldsTestAnswer (P : Program) (q : Premise) (text : List ℕ) (met : Bool) : Type 0 where
  pub found : Answer (List Binding)
  pub finds : FindsMet P q found
  pub written : WritesVerdict found text met

-- ---- counts

-- `test-results` writes how many tests passed and failed since they were counted last; nothing is stated that could be unmet
pub record IsResultsAnswer (c : Counts) (text : List ℕ) (met : Bool) : Type 0 where
  pub printed : text ≡ results_line c
  pub is_met : IsTrue met

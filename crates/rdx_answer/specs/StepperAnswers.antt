-- The answer to `stepper`: a walk as a text (the Redex reference manual, "GUI").
use Rattle.std.specs.Prelude.{◌≡◌, ℕ, ◌+◌, Bool, true, false, List, [], ◌∷◌, ◌++◌, Some, length, codes, decimal}
use Rattle.rdx_term.specs.Text.{tree_text}
use Rattle.rdx_term.specs.Tree.{Tree}
use Rattle.rdx_lang.specs.Programs.{Program, Relation, Rule, relation_named}
use Rattle.rdx_reduce.specs.Relations.{AreSteps}
use Rattle.rdx_reduce.specs.Steps.{Step}
use Rattle.rdx_run.specs.Walks.{State, Walk, WalkEnd, Walks, done, no_such_reduct, stopped}
use Rattle.rdx_answer.specs.AnswerText.{lines_text, step_text, fault_line, no_such_reduct_line}
use Rattle.rdx_answer.specs.StepAnswers.{name_at}

-- each step with its number, the name of its rule and its reduct
abbrev pub numbered_steps : ℕ → List Rule → List Step → List (List ℕ)
numbered_steps k rs [] = []
numbered_steps k rs (s ∷ ss) = (decimal k ++ codes " " ++ step_text (name_at rs s.rule, s.reduct)) ∷ numbered_steps (k + 1) rs ss

-- `step K t`: the term at which one is after so many steps
abbrev pub state_line : ℕ → Tree → List ℕ
state_line k t = codes "step " ++ decimal k ++ codes " " ++ tree_text t ++ codes "\n"

-- the states, from the one after so many steps on, each with the steps from it, counted from 1
abbrev pub states_text : ℕ → List Rule → List State → List ℕ
states_text k rs [] = []
states_text k rs (s ∷ ss) = (state_line k s.term ++ lines_text (numbered_steps 1 rs s.steps)) ++ states_text (k + 1) rs ss

-- what stands behind so many states: nothing, or the line of a fault, with the term whose steps have it
abbrev pub end_text : ℕ → WalkEnd → List ℕ
end_text k done = []
end_text k (no_such_reduct i n) = no_such_reduct_line i n
end_text k (stopped t f) = state_line k t ++ fault_line f

-- the text of a walk by these rules
abbrev pub walk_text : List Rule → Walk → List ℕ
walk_text rs w = states_text 0 rs w.states ++ end_text (length w.states) w.end

-- all choices were taken
abbrev pub is_done : WalkEnd → Bool
is_done done = true
is_done (no_such_reduct i n) = false
is_done (stopped t f) = false

-- `stepper`, by the relation of this name and these choices; what is stated is met unless there is a fault
pub record IsStepperAnswer (P : Program) (name : List ℕ) (choices : List ℕ) (t : Tree) (text : List ℕ) (met : Bool) : Type 0 where
  pub relation : Relation
  pub known : relation_named P name ≡ Some relation
  pub walk : Walk
  pub walks : Walks (AreSteps P relation) t choices walk
  pub printed : text ≡ walk_text relation.rules walk
  pub is_met : met ≡ is_done walk.end

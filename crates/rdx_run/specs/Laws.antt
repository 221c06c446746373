-- What follows from the definitions, stated for the contracts of the module of laws.
use Rattle.std.specs.Prelude.{◌≡◌, ℕ, List, IsSome}
use Rattle.rdx_term.specs.Tree.{Tree}
use Rattle.rdx_lang.specs.Programs.{Program, Relation, language_named}
use Rattle.rdx_eval.specs.Answers.{Answer}
use Rattle.rdx_eval.specs.Laws.{AreFree}
use Rattle.rdx_reduce.specs.Relations.{AreSteps}
use Rattle.rdx_reduce.specs.Steps.{Step}
use Rattle.rdx_run.specs.Runs.{RunEnd, Runs}
use Rattle.rdx_run.specs.Walks.{Walk, Walks}

-- a relation has one walk at most from a term by choices
abbrev pub OneWalk : Type 0
OneWalk = (P : Program) (R : Relation) (t : Tree) (cs : List ℕ) (w v : Walk) → Walks (AreSteps P R) t cs w → Walks (AreSteps P R) t cs v → w ≡ v

-- and the run from a term one end at most
abbrev pub OneRun : Type 0
OneRun = (P : Program) (R : Relation) (n : ℕ) (t : Tree) (e f : RunEnd) → Runs (AreSteps P R) n t e → Runs (AreSteps P R) n t f → e ≡ f

-- there is a walk from a term by choices
pub record HasWalk (R : Tree → Answer (List Step) → Type 0) (t : Tree) (cs : List ℕ) : Type 0 where
  pub walk : Walk
  pub walks : Walks R t cs walk

-- the run from a term has an end
pub record HasEnd (R : Tree → Answer (List Step) → Type 0) (n : ℕ) (t : Tree) : Type 0 where
  pub end : RunEnd
  pub runs : Runs R n t end

-- in a program whose languages are free of left recursion, a relation over one of them has a walk from each term by any choices
abbrev pub SomeWalk : Type 0
SomeWalk = (P : Program) (R : Relation) → AreFree P → IsSome (language_named P R.language) → (t : Tree) (cs : List ℕ) → HasWalk (AreSteps P R) t cs

-- and the run from each term has an end
abbrev pub SomeRun : Type 0
SomeRun = (P : Program) (R : Relation) → AreFree P → IsSome (language_named P R.language) → (n : ℕ) (t : Tree) → HasEnd (AreSteps P R) n t

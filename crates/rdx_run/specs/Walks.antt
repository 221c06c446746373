-- Walks: which terms are reached from a term where each step is chosen among those that there are, as one does who steps through a reduction (the
-- Redex reference manual, "GUI"; Felleisen, Findler and Flatt, "Semantics Engineering with PLT Redex", 2009).
use Rattle.std.specs.Prelude.{◌≡◌, ℕ, zero, suc, List, [], ◌∷◌, Option, Some, None, length}
use Rattle.rdx_term.specs.Tree.{Tree}
use Rattle.rdx_eval.specs.Answers.{Answer, value, fault, Fault}
use Rattle.rdx_reduce.specs.Steps.{Step}

-- a term that is reached, and the steps from it
pub record State : Type 0 where
  pub term : Tree
  pub steps : List Step

-- how a walk ends: all choices were taken; a choice is that of no step, where there are so many; or the steps from a term have a fault
pub data WalkEnd : Type 0 where
  done : WalkEnd
  no_such_reduct : ℕ → ℕ → WalkEnd
  stopped : Tree → Fault → WalkEnd

-- the terms that are reached, in order, and the end
pub record Walk : Type 0 where
  pub states : List State
  pub end : WalkEnd

-- the step that a choice takes, counted from 1
abbrev pub chosen : ℕ → List Step → Option Step
chosen i [] = None
chosen zero (s ∷ ss) = None
chosen (suc zero) (s ∷ ss) = Some s
chosen (suc (suc i)) (s ∷ ss) = chosen (suc i) ss

-- a walk with one state in front
abbrev pub behind : Tree → List Step → Walk → Walk
behind t ss w = record { states = record { term = t; steps = ss } ∷ w.states; end = w.end }

-- a walk of one state
abbrev pub at_once : Tree → List Step → WalkEnd → Walk
at_once t ss e = record { states = record { term = t; steps = ss } ∷ []; end = e }

-- the walk from a term by choices, where R says what the steps from a term are: each choice takes one of them, until all are taken, or one is that
-- of no step, or the steps have a fault, whose term is no state of the walk
pub data Walks (R : Tree → Answer (List Step) → Type 0) : Tree → List ℕ → Walk → Type 0 where
  stops : {t : Tree} {cs : List ℕ} {f : Fault} → R t (fault f) → Walks R t cs (record { states = []; end = stopped t f })
  ends : {t : Tree} {ss : List Step} → R t (value ss) → Walks R t [] (at_once t ss done)
  lacks : {t : Tree} {c : ℕ} {cs : List ℕ} {ss : List Step} → R t (value ss) → chosen c ss ≡ None
      → Walks R t (c ∷ cs) (at_once t ss (no_such_reduct c (length ss)))
  goes_on : {t : Tree} {c : ℕ} {cs : List ℕ} {ss : List Step} {s : Step} {w : Walk} → R t (value ss) → chosen c ss ≡ Some s → Walks R s.reduct cs w
      → Walks R t (c ∷ cs) (behind t ss w)

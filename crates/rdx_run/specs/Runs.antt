-- Runs: where a relation leads from a term that has one reduct at each step (Felleisen, Findler and Flatt, "Semantics Engineering with PLT Redex",
-- 2009: evaluation by the standard reduction; the Redex reference manual, "test-->>").
use Rattle.std.specs.Prelude.{◌≡◌, ℕ, zero, suc, List, [], ◌∷◌}
use Rattle.rdx_term.specs.Tree.{Tree}
use Rattle.rdx_lang.specs.Members.{In}
use Rattle.rdx_eval.specs.Answers.{Answer, value, fault, Fault}
use Rattle.rdx_reduce.specs.Steps.{Step}

-- how a run ends: in a term without a reduct; in one whose steps have a fault; in one with several reducts; or after the most steps that it may take
pub data RunEnd : Type 0 where
  rests : Tree → RunEnd
  fails : Fault → RunEnd
  branches : Tree → RunEnd
  is_bound : RunEnd

-- the steps all lead to u
abbrev pub AllLead : Tree → List Step → Type 0
AllLead u ss = (s : Step) → In s ss → s.reduct ≡ u

-- two of the steps lead to different terms; marks count
pub record Differ (ss : List Step) : Type 0 where
  pub one : Step
  pub other : Step
  pub is_one : In one ss
  pub is_other : In other ss
  pub apart : one.reduct ≡ other.reduct → ⊥

-- how the run from a term ends that may take so many steps yet, where R says what the steps from a term are: the steps of each term are looked at for
-- a fault, then for two reducts, and then for the bound
pub data Runs (R : Tree → Answer (List Step) → Type 0) : ℕ → Tree → RunEnd → Type 0 where
  faulty : {n : ℕ} {t : Tree} {f : Fault} → R t (fault f) → Runs R n t (fails f)
  parted : {n : ℕ} {t : Tree} {ss : List Step} → R t (value ss) → Differ ss → Runs R n t (branches t)
  resting : {n : ℕ} {t : Tree} → R t (value []) → Runs R n t (rests t)
  bounded : {t : Tree} {s : Step} {ss : List Step} → R t (value (s ∷ ss)) → AllLead s.reduct ss → Runs R zero t is_bound
  going : {n : ℕ} {t : Tree} {s : Step} {ss : List Step} {e : RunEnd} → R t (value (s ∷ ss)) → AllLead s.reduct ss → Runs R n s.reduct e → Runs R (suc n) t e

-- how many steps a run may take
abbrev pub most_steps : ℕ
most_steps = 10_000

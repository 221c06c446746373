-- Steps that are taken by their numbers.
use Rattle.std.proofs.Common.{◌≡◌, ◌<◌, ◌≤◌, ◌-◌, ◌∙◌, ℕ, zero, suc, List, [], ◌∷◌, Some, None, length, get_or, map, refl, sym, ap, arith}
use Rattle.rdx_reduce.specs.StepView.{step_of}
use Rattle.rdx_reduce.specs.declared.step.Step.{Step}
use Rattle.rdx_run.specs.Walks.{chosen}

-- one less than one more
less-one : (i : ℕ) → suc i - 1 ≡ i
less-one i = omega arith

-- the step at a place
pub chosen-at : (i : ℕ) (ss : List Step) (s : Step) → i < length ss → s ≡ get_or ss i s → chosen (suc i) (map step_of ss) ≡ Some (step_of s)
chosen-at i [] s h e = absurd (omega arith)
chosen-at zero (t ∷ ss) s h e = λ j. Some (step_of (sym e j))
chosen-at (suc i) (t ∷ ss) s h e = chosen-at i ss s (omega arith) e

-- none behind the last
pub chosen-behind : (i : ℕ) (ss : List Step) → length ss ≤ i → chosen (suc i) (map step_of ss) ≡ None
chosen-behind i [] h = refl
chosen-behind zero (t ∷ ss) h = absurd (omega arith)
chosen-behind (suc i) (t ∷ ss) h = chosen-behind i ss (omega arith)

-- none by 0
pub chosen-zero : (ss : List Step) → chosen zero (map step_of ss) ≡ None
chosen-zero [] = refl
chosen-zero (s ∷ ss) = refl

-- so it is with a choice, counted from 1
pub chosen-some : (c : ℕ) (ss : List Step) (s : Step) → (c ≡ 0 → ⊥) → c - 1 < length ss → s ≡ get_or ss (c - 1) s → chosen c (map step_of ss) ≡ Some (step_of s)
chosen-some zero ss s n h e = absurd (n refl)
chosen-some (suc i) ss s n h e = chosen-at i ss s (omega (arith, h)) (e ∙ ap (λ k. get_or ss k s) (less-one i))

pub chosen-none : (c : ℕ) (ss : List Step) → (c ≡ 0 → ⊥) → length ss ≤ c - 1 → chosen c (map step_of ss) ≡ None
chosen-none zero ss n h = absurd (n refl)
chosen-none (suc i) ss n h = chosen-behind i ss (let e = less-one i in omega (arith, h, e))

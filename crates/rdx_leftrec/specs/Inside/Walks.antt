-- What holds of a walk over places, and how much of it is left.
use Rattle.std.specs.Prelude.{◌≡◌, ◌<◌, ◌≤◌, ◌+◌, ℕ, List, [], ◌∷◌, length, replicate, ◌⊎◌}
use Rattle.rdx_lang.specs.Members.{In}
use Rattle.rdx_leftrec.specs.Inside.Components.{ReachesOrIs}
use Rattle.rdx_leftrec.specs.Inside.Lists.{At, IsSorted}
use Rattle.rdx_leftrec.specs.Inside.Reach.{targets_at}
use Rattle.rdx_leftrec.specs.declared.walk.State.{State}
use Rattle.rdx_leftrec.specs.declared.walk.State.TheVariants.{New, Open, Done}
use Rattle.rdx_leftrec.specs.declared.walk.Step.{Step}
use Rattle.rdx_leftrec.specs.declared.walk.Walk as code_walk

-- what a walk knows: the state of each place, the open places, where their components begin, the steps from them that are still to be taken, and how many components are complete
pub record Walk : Type 0 where
  pub states : List State
  pub opened : List ℕ
  pub bounds : List ℕ
  pub pending : List Step
  pub complete : ℕ

-- what a walk of the code knows
abbrev pub walk_of : code_walk.Walk → Walk
walk_of w = record { states = w.states.items; opened = w.opened.items; bounds = w.bounds.items; pending = w.pending.items; complete = w.complete }

-- a walk over n places that has met none
abbrev pub untouched : ℕ → Walk
untouched n = record { states = replicate n New; opened = []; bounds = []; pending = []; complete = 0 }

-- the step to j from the open place at the position t
abbrev pub step : ℕ → ℕ → Step
step t j = record { from = t; to = j }

-- the walk hasn't met the place
abbrev pub IsNew : Walk → ℕ → Type 0
IsNew w v = At w.states v New

-- what one has met, the other has met too
abbrev pub KeepsMet : Walk → Walk → Type 0
KeepsMet w x = (v : ℕ) → IsNew x v → IsNew w v

-- the position t is in the component of the position s or in one behind it
abbrev pub IsWithin : List ℕ → ℕ → ℕ → Type 0
IsWithin bounds s t = (b : ℕ) → In b bounds → b ≤ s → b ≤ t

-- the step to j from the open place at the position t is pending, or leads to a place that is done, or to an open one that isn't in a component before that of t
abbrev pub IsFollowed : Walk → ℕ → ℕ → Type 0
IsFollowed w t j = In (step t j) w.pending ⊎ (((m : ℕ) × At w.states j (Done m)) ⊎ ((s : ℕ) × At w.opened s j × IsWithin w.bounds t s))

-- what holds of a walk, where steps to the places X may be left out
pub record IsWalk (ts : List (List ℕ)) (X : ℕ → Type 0) (w : Walk) : Type 0 where
  pub size : length w.states ≡ length ts
  pub opened_at : (v t : ℕ) → At w.opened t v → At w.states v (Open t)
  pub at_opened : (v t : ℕ) → At w.states v (Open t) → At w.opened t v
  pub done_step : (v n j : ℕ) → At w.states v (Done n) → In j (targets_at ts v) → (m : ℕ) × At w.states j (Done m) × (m ≤ n)
  pub done_back : (v n j : ℕ) → At w.states v (Done n) → In j (targets_at ts v) → At w.states j (Done n) → ReachesOrIs ts j v
  pub done_below : (v n : ℕ) → At w.states v (Done n) → n < w.complete
  pub together : (u v s t : ℕ) → At w.opened s u → At w.opened t v → IsWithin w.bounds s t → ReachesOrIs ts u v
  pub followed : (v t j : ℕ) → At w.opened t v → In j (targets_at ts v) → IsFollowed w t j ⊎ X j
  pub kept : (s : Step) → In s w.pending → (v : ℕ) × At w.opened s.from v × In s.to (targets_at ts v)
  pub steps : IsSorted (λ s t. s.from ≤ t.from) w.pending
  pub sorted : IsSorted (λ a b. a < b) w.bounds
  pub inside : (b : ℕ) → In b w.bounds → b < length w.opened
  pub bottom : (t : ℕ) → t < length w.opened → (b : ℕ) × In b w.bounds × (b ≤ t)

-- the steps of places that were not met, and two more for each of these
abbrev pub unmet : List (List ℕ) → List State → ℕ
unmet [] ss = 0
unmet (js ∷ ts) [] = 0
unmet (js ∷ ts) (New ∷ ss) = length js + 2 + unmet ts ss
unmet (js ∷ ts) (Open t ∷ ss) = unmet ts ss
unmet (js ∷ ts) (Done n ∷ ss) = unmet ts ss

-- a bound of what is left to do
abbrev pub left : List (List ℕ) → Walk → ℕ
left ts w = unmet ts w.states + length w.pending + length w.bounds

-- the number of a place that is done
abbrev pub number_of : State → ℕ
number_of New = 0
number_of (Open t) = 0
number_of (Done n) = n

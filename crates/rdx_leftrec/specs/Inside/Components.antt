-- Components: sets of places that reach one another.
use Rattle.std.specs.Prelude.{◌≡◌, ◌<◌, ◌≤◌, ℕ, List, length, slice_index, ◌⊎◌}
use Rattle.rdx_lang.specs.Members.{In}
use Rattle.rdx_leftrec.specs.Inside.Reach.{Path, targets_at, AreFreeBefore}

-- i is j or reaches it
abbrev pub ReachesOrIs : List (List ℕ) → ℕ → ℕ → Type 0
ReachesOrIs ts i j = (i ≡ j) ⊎ Path ts i j

-- the numbers of the components of places: no step leads to a greater number, and where one leads to the same, its target reaches back
pub record AreComponents (ts : List (List ℕ)) (ns : List ℕ) : Type 0 where
  pub size : length ns ≡ length ts
  pub most : (i j : ℕ) → In j (targets_at ts i) → slice_index ns j ≤ slice_index ns i
  pub back : (i j : ℕ) → In j (targets_at ts i) → slice_index ns j ≡ slice_index ns i → ReachesOrIs ts j i

-- numbers of places that fall along every step
pub record AreFalling (ts : List (List ℕ)) (ns : List ℕ) : Type 0 where
  pub size : length ns ≡ length ts
  pub fall : (i j : ℕ) → In j (targets_at ts i) → slice_index ns j < slice_index ns i

-- i is the first place that reaches itself
pub record IsFirst (ts : List (List ℕ)) (i : ℕ) : Type 0 where
  pub inside : i < length ts
  pub recursive : Path ts i i
  pub first : AreFreeBefore ts i

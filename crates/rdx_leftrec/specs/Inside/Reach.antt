-- Which places are reached from a place, where each place has a list of targets.
use Rattle.std.specs.Prelude.{◌≡◌, ◌<◌, ℕ, Bool, true, false, List, [], length, slice_index_or}
use Rattle.rdx_lang.specs.Members.{In}

-- the targets of the place i
abbrev pub targets_at : List (List ℕ) → ℕ → List ℕ
targets_at ts i = slice_index_or ts i []

-- one step or more lead from i to the place
pub data Path (ts : List (List ℕ)) (i : ℕ) : ℕ → Type 0 where
  once : {j : ℕ} → In j (targets_at ts i) → Path ts i j
  more : {j k : ℕ} → Path ts i j → In k (targets_at ts j) → Path ts i k

-- each target is a place
abbrev pub AreTargets : List (List ℕ) → Type 0
AreTargets ts = (i j : ℕ) → In j (targets_at ts i) → j < length ts

-- the place is marked
abbrev pub IsMarked : List Bool → ℕ → Type 0
IsMarked marks j = slice_index_or marks j false ≡ true

-- no place reaches itself among those before i
abbrev pub AreFreeBefore : List (List ℕ) → ℕ → Type 0
AreFreeBefore ts i = (k : ℕ) → k < i → ¬ Path ts k k

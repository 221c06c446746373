-- The places of what has a name, found by that name.
use Rattle.std.specs.Prelude.{◌≡◌, ℕ, suc, List, [], ◌∷◌, Option, Some, None, bytes_eq, if◌then◌else◌}
use Rattle.std.specs.BTreeMap.{BTreeMap, get_by}
use Rattle.std.specs.Borrow.{Bor}
use Rattle.std.specs.Cmp.Lexicographic.{slice_cmp}
use Rattle.std.specs.Ordering.{nat_cmp}

module _ {A : Type 0} (name : A → List ℕ) where
  -- the place of the first of this name, if these have the places from i on
  abbrev pub place_from : ℕ → List ℕ → List A → Option ℕ
  place_from i x [] = None
  place_from i x (a ∷ xs) = if bytes_eq (name a) x then Some i else place_from (suc i) x xs

  -- each name of these is found with the place of the first that has it, and no other text
  abbrev pub FindsPlaces : (List ℕ → Option ℕ) → ℕ → List A → Type 0
  FindsPlaces found i xs = (x : List ℕ) → found x ≡ place_from i x xs

-- the place that a map has at a text
abbrev pub place_in : BTreeMap (Bor (List ℕ)) ℕ → List ℕ → Option ℕ
place_in m x = get_by (λ k. slice_cmp nat_cmp x k.now) m

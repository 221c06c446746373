-- Lists and their places.
use Rattle.std.specs.Prelude.{◌≡◌, ℕ, zero, suc, List, [], ◌∷◌, ◌++◌, slice_set}
use Rattle.rdx_lang.specs.Members.{In}

-- x stands at the place i
abbrev pub At : {A : Type 0} → List A → ℕ → A → Type 0
At [] i x = ⊥
At (y ∷ ys) zero x = x ≡ y
At (y ∷ ys) (suc i) x = At ys i x

-- x is the last
pub record EndsWith {A : Type 0} (x : A) (xs : List A) : Type 0 where
  pub front : List A
  pub whole : xs ≡ front ++ x ∷ []

-- each member is so related to all members behind it
abbrev pub IsSorted : {A : Type 0} → (A → A → Type 0) → List A → Type 0
IsSorted {A} R [] = Unit {0}
IsSorted {A} R (x ∷ xs) = ((y : A) → In y xs → R x y) × IsSorted R xs

-- the list with x at all these places
abbrev pub with_all : {A : Type 0} → List A → List ℕ → A → List A
with_all xs [] x = xs
with_all xs (i ∷ is) x = with_all (slice_set xs i x) is x

-- no place
abbrev pub Nothing : ℕ → Type 0
Nothing i = ⊥

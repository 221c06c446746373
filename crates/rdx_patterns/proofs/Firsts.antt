-- The first of several lists put together, and where there is none.
use Rattle.std.proofs.Common.{◌≡◌, ◌++◌, ◌∙◌, ◌<◌, ℕ, ◌+◌, Bool, true, false, List, [], ◌∷◌, length, drop, get_or, map, Option, Some, None, refl, ap, if◌then◌else◌}
use Rattle.std.specs.Prelude.{option_map, flat_map}
use Rattle.rdx_lang.proofs.Rest.{rest_at}
use Rattle.rdx_patterns.specs.Refusal.{Refusal, first, or_else, first_refusal}

-- the first of both is that of the one list, or else of the other
pub first-append : {A : Type 0} (xs ys : List A) → first (xs ++ ys) ≡ or_else (first xs) (first ys)
first-append [] ys = refl
first-append (x ∷ xs) ys = refl

-- of what comes of all that a loop has before it, the first comes of the next element, or else of those behind that
pub first-next : {A B C : Type 0} (f : A → B) (g : B → List C) (xs : List A) (i : ℕ) (x : A) → i < length xs → x ≡ get_or xs i x
    → first (flat_map g (map f (drop i xs))) ≡ or_else (first (g (f x))) (first (flat_map g (map f (drop (i + 1) xs))))
first-next f g xs i x h e =
    ap (λ ys. first (flat_map g ys)) (rest_at f xs i x h e) ∙ first-append (g (f x)) (flat_map g (map f (drop (i + 1) xs)))

-- no first one is found where there is none
pub nothing : {A B : Type 0} (f : A → B) (xs : List A) → option_map f (first xs) ≡ None → xs ≡ []
nothing f [] e = refl
nothing f (x ∷ xs) e = absurd cc

-- two lists that are empty together
pub none_both : {A : Type 0} (xs ys : List A) → xs ++ ys ≡ [] → (xs ≡ []) × (ys ≡ [])
none_both [] ys e = (refl, e)
none_both (x ∷ xs) ys e = absurd cc

-- a list that is empty, with a member in front where a test holds
pub none_first : {A : Type 0} (b : Bool) (x : A) (xs : List A) → (if b then x ∷ [] else []) ++ xs ≡ [] → (b ≡ false) × (xs ≡ [])
none_first true x xs e = absurd cc
none_first false x xs e = (refl, e)

-- of two that are none together
pub none_or : {A : Type 0} (o p : Option A) → or_else o p ≡ None → (o ≡ None) × (p ≡ None)
none_or None p e = (refl, e)
none_or (Some x) p e = absurd cc

-- what refuses in none of several checks refuses in none of those behind the first
pub none_of : (o : Option Refusal) (os : List (Option Refusal)) → first_refusal (o ∷ os) ≡ None → (o ≡ None) × (first_refusal os ≡ None)
none_of o os e = none_or o (first_refusal os) e

-- the first of several checks, where the early ones refuse nothing
pub late_of : (s d b : Option Refusal) (os : List (Option Refusal)) → first_refusal (s ∷ d ∷ b ∷ []) ≡ None → first_refusal (s ∷ d ∷ b ∷ os) ≡ first_refusal os
late_of None None None os e = refl
late_of None None (Some x) os e = absurd cc
late_of None (Some x) b os e = absurd cc
late_of (Some x) d b os e = absurd cc

-- the refusal of the early checks is that of all
pub early_of : (s d b : Option Refusal) (os : List (Option Refusal)) (r : Refusal) → Some r ≡ first_refusal (s ∷ d ∷ b ∷ []) → Some r ≡ first_refusal (s ∷ d ∷ b ∷ os)
early_of None None None os r e = absurd cc
early_of None None (Some x) os r e = e
early_of None (Some x) b os r e = e
early_of (Some x) d b os r e = e

-- a list without a first member is empty
pub none-empty : {A : Type 0} (xs : List A) → first xs ≡ None → xs ≡ []
none-empty [] e = refl
none-empty (x ∷ xs) e = absurd cc

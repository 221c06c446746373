-- The earliest of several lists put together, and where there is none.
use Rattle.std.proofs.Common.{◌≡◌, ◌++◌, ◌∙◌, ◌+◌, ◌<◌, ℕ, Bool, true, false, List, [], ◌∷◌, Option, Some, None, length, get_or, map, drop, refl, sym, ap, arith, if◌then◌else◌}
use Rattle.std.proofs.lemmas.Bool.Decides.{nat_tests}
use Rattle.std.specs.Prelude.{◌&&◌, ◌||◌, nat_eq, nat_lt, flat_map, option_map}
use Rattle.rdx_base.specs.declared.place.Place.{Place}
use Rattle.rdx_lang.proofs.Rest.{rest_at}
use Rattle.rdx_patterns.specs.Refusal.{first}
use Rattle.rdx_templates.specs.Earliest.{is_before, earlier, lesser, earliest}

-- ---- places

-- what comes before what comes before another comes before that
before-behind : (a b c d e f : ℕ) → (nat_lt a c || (nat_eq a c && nat_lt b d)) ≡ true → (nat_lt c e || (nat_eq c e && nat_lt d f)) ≡ true
    → (nat_lt a e || (nat_eq a e && nat_lt b f)) ≡ true
before-behind a b c d e f p q = grind (arith, nat_tests)

-- what does not come before what does not come before another does not come before that
before-after : (a b c d e f : ℕ) → (nat_lt a c || (nat_eq a c && nat_lt b d)) ≡ false → (nat_lt c e || (nat_eq c e && nat_lt d f)) ≡ false
    → (nat_lt a e || (nat_eq a e && nat_lt b f)) ≡ false
before-after a b c d e f p q = grind (arith, nat_tests)

behind : (p q r : Place) → is_before p q ≡ true → is_before q r ≡ true → is_before p r ≡ true
behind p q r = before-behind p.line p.column q.line q.column r.line r.column

after : (p q r : Place) → is_before p q ≡ false → is_before q r ≡ false → is_before p r ≡ false
after p q r = before-after p.line p.column q.line q.column r.line r.column

-- ---- the lesser of several

module _ {A : Type 0} (at : A → Place) where
  -- of three, by the tests of the second with the first and of the third with the second
  of_three : (x y z : A) (a b c : Bool) → is_before (at y) (at x) ≡ a → is_before (at z) (at y) ≡ b → is_before (at z) (at x) ≡ c
      → lesser at (if a then Some y else Some x) (Some z) ≡ earlier at x (if b then Some z else Some y)
  of_three x y z true true c p q r =
      (λ i. if q i then Some z else Some y) ∙ sym (λ i. if behind (at z) (at y) (at x) q p i then Some z else Some x)
  of_three x y z true false c p q r = (λ i. if q i then Some z else Some y) ∙ sym (λ i. if p i then Some y else Some x)
  of_three x y z false true c p q r = refl
  of_three x y z false false c p q r = (λ i. if after (at z) (at y) (at x) q p i then Some z else Some x) ∙ sym (λ i. if p i then Some y else Some x)

  pub lesser_assoc : (o p q : Option A) → lesser at (lesser at o p) q ≡ lesser at o (lesser at p q)
  lesser_assoc None p q = refl
  lesser_assoc (Some x) None q = refl
  lesser_assoc (Some x) (Some y) None = by_test (is_before (at y) (at x))
    where
      by_test : (b : Bool) → lesser at (if b then Some y else Some x) None ≡ (if b then Some y else Some x)
      by_test true = refl
      by_test false = refl
  lesser_assoc (Some x) (Some y) (Some z) =
      of_three x y z (is_before (at y) (at x)) (is_before (at z) (at y)) (is_before (at z) (at x)) refl refl refl

  -- nothing behind
  pub lesser_none : (o : Option A) → lesser at o None ≡ o
  lesser_none None = refl
  lesser_none (Some x) = refl

  -- ---- the earliest of a list

  pub earliest_append : (xs ys : List A) → earliest at (xs ++ ys) ≡ lesser at (earliest at xs) (earliest at ys)
  earliest_append [] ys = refl
  earliest_append (x ∷ xs) ys = ap (earlier at x) (earliest_append xs ys) ∙ sym (lesser_assoc (Some x) (earliest at xs) (earliest at ys))

  -- of a thing that stands by itself where a test holds
  pub earliest-if : (b : Bool) (x : A) → earliest at (if b then x ∷ [] else []) ≡ (if b then Some x else None)
  earliest-if true x = refl
  earliest-if false x = refl

  -- it is the first of it too
  pub earliest-when : (b : Bool) (x : A) → earliest at (if b then x ∷ [] else []) ≡ first (if b then x ∷ [] else [])
  earliest-when true x = refl
  earliest-when false x = refl

  -- the earliest so far, and that of some more, before others
  pub earliest-more : (o p : Option A) (xs ys : List A) → p ≡ earliest at xs → lesser at (lesser at o p) (earliest at ys) ≡ lesser at o (earliest at (xs ++ ys))
  earliest-more o p xs ys e =
      ap (λ (q : Option A). lesser at (lesser at o q) (earliest at ys)) e ∙ lesser_assoc o (earliest at xs) (earliest at ys)
      ∙ ap (lesser at o) (sym (earliest_append xs ys))

  -- of what members of a list give: with the earliest so far, of the next member before the others
  pub earliest_next : {B C : Type 0} (f : B → List A) (v : C → B) (xs : List C) (i : ℕ) (x : C) (o p : Option A) → i < length xs → x ≡ get_or xs i x
      → p ≡ earliest at (f (v x))
      → lesser at (lesser at o p) (earliest at (flat_map f (map v (drop (i + 1) xs)))) ≡ lesser at o (earliest at (flat_map f (map v (drop i xs))))
  earliest_next f v xs i x o p h e same =
      let rest = flat_map f (map v (drop (i + 1) xs)) in
      lesser_assoc o p (earliest at rest)
      ∙ ap (lesser at o)
      (ap (λ q. lesser at q (earliest at rest)) same ∙ sym (earliest_append (f (v x)) rest) ∙ ap (λ ys. earliest at (flat_map f ys)) (sym (rest_at v xs i x h e)))

  -- some one is there where something is
  earlier-some : (x : A) (o : Option A) → earlier at x o ≡ None → ⊥
  earlier-some x None e = absurd cc
  earlier-some x (Some y) e = by_test (is_before (at y) (at x)) e
    where
      by_test : (b : Bool) → (if b then Some y else Some x) ≡ None → ⊥
      by_test true e = absurd cc
      by_test false e = absurd cc

  -- nothing is found where nothing is
  pub earliest-none : {B : Type 0} (f : A → B) (xs : List A) → option_map f (earliest at xs) ≡ None → xs ≡ []
  earliest-none f [] e = refl
  earliest-none f (x ∷ xs) e = absurd (earlier-some x (earliest at xs) (none_mapped f (earlier at x (earliest at xs)) e))
    where
      none_mapped : {B : Type 0} (f : A → B) (o : Option A) → option_map f o ≡ None → o ≡ None
      none_mapped f None e = refl
      none_mapped f (Some y) e = absurd cc

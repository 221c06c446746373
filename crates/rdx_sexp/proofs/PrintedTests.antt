-- Tests of characters, of lists of them, and of all numbers below a bound.
use Rattle.std.proofs.Common.{◌≡◌, ◌<◌, ℕ, zero, suc, Bool, true, false, not, ◌&&◌, ◌||◌, ◌==◌, nat_lt, List, [], ◌∷◌, inl, inr, refl, sym, subst, bytes_eq, if◌then◌else◌, true≢false, ◌∙◌, eqb-true, arith}
use Rattle.std.proofs.lemmas.Bool.{and_parts, cases_eq}
use Rattle.std.proofs.lemmas.Slice.Eq.{bytes_eq-Decides}
use Rattle.std.specs.List.{list_any, list_all}

-- the test of ASCII characters
abbrev pub is_ascii : ℕ → Bool
is_ascii c = nat_lt c 128

-- the choice where the test fails
pub if-false : {A : Type 0} (b : Bool) (x y : A) → b ≡ false → (if b then x else y) ≡ y
if-false true x y e = absurd (true≢false e)
if-false false x y e = refl

-- and where it holds
pub if-true : {A : Type 0} (b : Bool) (x y : A) → b ≡ true → (if b then x else y) ≡ x
if-true true x y e = refl
if-true false x y e = absurd (true≢false (sym e))

-- what is not true is false
pub false_from_not : (b : Bool) → (b ≡ true → ⊥) → b ≡ false
false_from_not true h = absurd (h refl)
false_from_not false h = refl

-- where not even one of two tests holds, neither does
pub or_parts : (a b : Bool) → (a || b) ≡ false → (a ≡ false) × (b ≡ false)
or_parts true b e = absurd (true≢false e)
or_parts false b e = (refl, e)

-- and back
pub or_false : (a b : Bool) → a ≡ false → b ≡ false → (a || b) ≡ false
or_false true b e f = e
or_false false b e f = f

-- one of two tests holds where the first does
pub or_left : (a b : Bool) → a ≡ true → (a || b) ≡ true
or_left true b e = refl
or_left false b e = absurd (true≢false (sym e))

-- where a test holds that excludes another one, that fails
pub excluded : (a b : Bool) → not (a && b) ≡ true → a ≡ true → b ≡ false
excluded true true h e = absurd (true≢false (sym h))
excluded true false h e = refl
excluded false b h e = absurd (true≢false (sym e))

-- where c fails a test that k passes, c is not k
pub unlike : (f : ℕ → Bool) (c k : ℕ) → f c ≡ false → f k ≡ true → (c == k) ≡ false
unlike f c k h e = false_from_not (c == k) (λ t. true≢false (sym e ∙ subst (λ (x : ℕ). f x ≡ false) (eqb-true c k t) h))

-- the same of lists
pub bytes_unlike : (f : List ℕ → Bool) (bs ws : List ℕ) → f bs ≡ false → f ws ≡ true → bytes_eq bs ws ≡ false
bytes_unlike f bs ws h e = false_from_not (bytes_eq bs ws) (λ t. true≢false (sym e ∙ subst (λ (l : List ℕ). f l ≡ false) ((bytes_eq-Decides bs ws).0 t) h))

-- the test holds of all numbers below this one
abbrev pub all_below : (ℕ → Bool) → ℕ → Bool
all_below f zero = true
all_below f (suc n) = f n && all_below f n

-- so it holds of each
pub holds_below : (f : ℕ → Bool) (n : ℕ) → all_below f n ≡ true → (x : ℕ) → x < n → f x ≡ true
holds_below f zero e x h = absurd (omega arith)
holds_below f (suc n) e x h =
    let p = and_parts (f n) (all_below f n) e in
    elim (cases_eq x n) [ inl same ↦ subst (λ (k : ℕ). f k ≡ true) (sym same) p.0 | inr other ↦ holds_below f n p.1 x (omega arith) ]

-- where each passes a test that excludes another one, none passes that
pub list_any-excluded : (f g : ℕ → Bool) → ((c : ℕ) → g c ≡ true → f c ≡ false) → (cs : List ℕ) → list_all g cs ≡ true → list_any f cs ≡ false
list_any-excluded f g h [] e = refl
list_any-excluded f g h (c ∷ cs) e =
    let p = and_parts (g c) (list_all g cs) e in
    rw (h c p.0) (list_any-excluded f g h cs p.1)

-- where each passes a test that implies another one, all pass that
pub list_all-implied : (f g : ℕ → Bool) → ((c : ℕ) → g c ≡ true → f c ≡ true) → (cs : List ℕ) → list_all g cs ≡ true → list_all f cs ≡ true
list_all-implied f g h [] e = refl
list_all-implied f g h (c ∷ cs) e =
    let p = and_parts (g c) (list_all g cs) e in
    rw (h c p.0) (list_all-implied f g h cs p.1)

-- There are always five symbols to choose among.
use Rattle.std.proofs.Common.{◌≡◌, ◌^◌, ℕ, zero, suc, ◌<◌, ◌≤◌, ◌+◌, Bool, true, false, not, ◌&&◌, ◌||◌, List, [], ◌∷◌, length, codes, bytes_eq, refl, sym, ap, subst, true≢false, if◌then◌else◌, arith, ◌⊎◌, inl, inr}
use Rattle.std.proofs.lemmas.Bool.{false_from_ne_true, or_right}
use Rattle.std.proofs.lemmas.Cmp.{nat_list_eq_equiv}
use Rattle.std.proofs.lemmas.Map.Made.{length-le_from_is_member}
use Rattle.std.proofs.lemmas.Slice.Eq.{bytes_eq-Decides}
use Rattle.std.specs.List.{list_any, IsDistinct, AllByRecursion}
use Rattle.rdx_lang.specs.Rules.{is_one_of}
use Rattle.rdx_term.specs.Spelling.{is_name}
use Rattle.rdx_gen.specs.Variables.{behind_prefix, is_free, first_free, first_five}
use Rattle.rdx_gen.proofs.SequenceNames.{MayPrecede, name_or_hole, one_place}

-- those among n symbols from place i on that are not free
taken : List ℕ → List (List ℕ) → ℕ → ℕ → List (List ℕ)
taken r xs i zero = []
taken r xs i (suc n) = if is_free xs (behind_prefix r i) then taken r xs (i + 1) n else behind_prefix r i ∷ taken r xs (i + 1) n

-- ---- as many as are wanted are found, or all that are not taken

count_one : (b : Bool) (s : List ℕ) (fs gs ts : List (List ℕ)) (w n : ℕ)
    → (length fs ≡ w) ⊎ (length fs + length ts ≡ n) → (length gs ≡ suc w) ⊎ (length gs + length ts ≡ n)
    → (length (if b then s ∷ fs else gs) ≡ suc w) ⊎ (length (if b then s ∷ fs else gs) + length (if b then ts else s ∷ ts) ≡ suc n)
count_one true s fs gs ts w n (inl e) k = inl (ap suc e)
count_one true s fs gs ts w n (inr e) k = inr (omega (arith, e))
count_one false s fs gs ts w n h (inl e) = inl e
count_one false s fs gs ts w n h (inr e) = inr (omega (arith, e))

found_or_taken : (r : List ℕ) (xs : List (List ℕ)) (w i n : ℕ)
    → (length (first_free r xs w i n) ≡ w) ⊎ (length (first_free r xs w i n) + length (taken r xs i n) ≡ n)
unfolding taken
found_or_taken r xs zero i n = inl refl
found_or_taken r xs (suc w) i zero = inr refl
found_or_taken r xs (suc w) i (suc n) = count_one (is_free xs (behind_prefix r i)) (behind_prefix r i) (first_free r xs w (i + 1) n)
    (first_free r xs (suc w) (i + 1) n) (taken r xs (i + 1) n) w n (found_or_taken r xs w (i + 1) n) (found_or_taken r xs (suc w) (i + 1) n)

at_most_one : (b : Bool) (s : List ℕ) (fs gs : List (List ℕ)) (w : ℕ) → length fs ≤ w → length gs ≤ suc w → length (if b then s ∷ fs else gs) ≤ suc w
at_most_one true s fs gs w h k = omega (arith, h)
at_most_one false s fs gs w h k = k

at_most : (r : List ℕ) (xs : List (List ℕ)) (w i n : ℕ) → length (first_free r xs w i n) ≤ w
at_most r xs zero i n = omega arith
at_most r xs (suc w) i zero = omega arith
at_most r xs (suc w) i (suc n) = at_most_one (is_free xs (behind_prefix r i)) (behind_prefix r i) (first_free r xs w (i + 1) n)
    (first_free r xs (suc w) (i + 1) n) w (at_most r xs w (i + 1) n) (at_most r xs (suc w) (i + 1) n)

-- ---- those that are taken

-- an earlier symbol is none of them
differs : (r : List ℕ) (j i : ℕ) → j < i → i < 10 ^ 64 → bytes_eq (behind_prefix r j) (behind_prefix r i) ≡ false
differs r j i l h = false_from_ne_true _ (λ t.
    let e = one_place r j i (omega (arith, l, h)) h ((bytes_eq-Decides (behind_prefix r j) (behind_prefix r i)).0 t) in absurd (omega (arith, l, e)))

all_but : (P : List ℕ → Type 0) (b : Bool) (s : List ℕ) (ts : List (List ℕ)) → P s → AllByRecursion P ts → AllByRecursion P (if b then ts else s ∷ ts)
all_but P true s ts h k = k
all_but P false s ts h k = (h, k)

earlier_differs : (r : List ℕ) (xs : List (List ℕ)) (j i n : ℕ) → j < i → i + n ≤ 10 ^ 64 → AllByRecursion (λ y. bytes_eq (behind_prefix r j) y ≡ false) (taken r xs i n)
unfolding taken
earlier_differs r xs j i zero l h = tt
earlier_differs r xs j i (suc n) l h = all_but (λ y. bytes_eq (behind_prefix r j) y ≡ false) (is_free xs (behind_prefix r i)) (behind_prefix r i) (taken r xs (i + 1) n) (differs r j i l (omega (arith, h)))
    (earlier_differs r xs j (i + 1) n (omega (arith, l)) (omega (arith, h)))

distinct_but : (b : Bool) (s : List ℕ) (ts : List (List ℕ)) → AllByRecursion (λ y. bytes_eq s y ≡ false) ts → IsDistinct bytes_eq ts
    → IsDistinct bytes_eq (if b then ts else s ∷ ts)
unfolding IsDistinct
distinct_but true s ts h k = k
distinct_but false s ts h k = (h, k)

-- they differ from one another
taken_distinct : (r : List ℕ) (xs : List (List ℕ)) (i n : ℕ) → i + n ≤ 10 ^ 64 → IsDistinct bytes_eq (taken r xs i n)
unfolding taken IsDistinct
taken_distinct r xs i zero h = tt
taken_distinct r xs i (suc n) h = distinct_but (is_free xs (behind_prefix r i)) (behind_prefix r i) (taken r xs (i + 1) n)
    (earlier_differs r xs i (i + 1) n (omega arith) (omega (arith, h))) (taken_distinct r xs (i + 1) n (omega (arith, h)))

-- the test of two texts is the same the other way
equal_back : (x y : List ℕ) → bytes_eq x y ≡ true → bytes_eq y x ≡ true
equal_back x y e = (bytes_eq-Decides y x).1 (sym ((bytes_eq-Decides x y).0 e))

or_either : (a b c d : Bool) → (a ≡ true → c ≡ true) → (b ≡ true → d ≡ true) → (a || b) ≡ true → (c || d) ≡ true
or_either true b c d f g e = ap (λ t. t || d) (f refl)
or_either false b c d f g e = or_right c d (g e)

among_back : (xs : List (List ℕ)) (s : List ℕ) → is_one_of xs s ≡ true → list_any (bytes_eq s) xs ≡ true
among_back [] s e = absurd (true≢false (sym e))
among_back (x ∷ xs) s e = or_either (bytes_eq x s) (is_one_of xs s) (bytes_eq s x) (list_any (bytes_eq s) xs) (equal_back x s) (among_back xs s) e

-- what is not free is `hole`, or one of those to avoid
not_free : (a b : Bool) → (a && not b) ≡ false → a ≡ true → b ≡ true
not_free true true e h = refl
not_free true false e h = absurd (true≢false e)
not_free false b e h = absurd (true≢false (sym h))

taken_among : (r : List ℕ) (xs : List (List ℕ)) (i : ℕ) → MayPrecede r → i < 10 ^ 64 → is_free xs (behind_prefix r i) ≡ false
    → list_any (bytes_eq (behind_prefix r i)) (codes "hole" ∷ xs) ≡ true
taken_among r xs i m h e = elim (name_or_hole r i m h) [
  | inl n ↦ or_right (bytes_eq (behind_prefix r i) (codes "hole")) _ (among_back xs (behind_prefix r i) (not_free (is_name (behind_prefix r i)) (is_one_of xs (behind_prefix r i)) e n))
  | inr q ↦ ap (λ t. t || list_any (bytes_eq (behind_prefix r i)) xs) ((bytes_eq-Decides (behind_prefix r i) (codes "hole")).1 q)
]

among_first : (q s : List ℕ) (ys : List (List ℕ)) → bytes_eq q s ≡ true → list_any (bytes_eq s) ys ≡ true → list_any (bytes_eq q) ys ≡ true
among_first q s ys e h = subst (λ (x : List ℕ). list_any (bytes_eq x) ys ≡ true) (sym ((bytes_eq-Decides q s).0 e)) h

or_cases : (a b : Bool) (C : Type 0) → (a ≡ true → C) → (b ≡ true → C) → (a || b) ≡ true → C
or_cases true b C f g e = f refl
or_cases false b C f g e = g e

among_but : (b : Bool) (q s : List ℕ) (ts ys : List (List ℕ)) → (b ≡ false → list_any (bytes_eq s) ys ≡ true)
    → (list_any (bytes_eq q) ts ≡ true → list_any (bytes_eq q) ys ≡ true)
    → list_any (bytes_eq q) (if b then ts else s ∷ ts) ≡ true → list_any (bytes_eq q) ys ≡ true
among_but true q s ts ys f g e = g e
among_but false q s ts ys f g e = or_cases (bytes_eq q s) (list_any (bytes_eq q) ts) (list_any (bytes_eq q) ys ≡ true) (λ h. among_first q s ys h (f refl)) g e

all_among : (r : List ℕ) (xs : List (List ℕ)) (i n : ℕ) → MayPrecede r → i + n ≤ 10 ^ 64
    → (q : List ℕ) → list_any (bytes_eq q) (taken r xs i n) ≡ true → list_any (bytes_eq q) (codes "hole" ∷ xs) ≡ true
unfolding taken
all_among r xs i zero m h q e = absurd (true≢false (sym e))
all_among r xs i (suc n) m h q e = among_but (is_free xs (behind_prefix r i)) q (behind_prefix r i) (taken r xs (i + 1) n) (codes "hole" ∷ xs)
    (λ f. taken_among r xs i m (omega (arith, h)) f) (all_among r xs (i + 1) n m (omega (arith, h)) q) e

-- ---- five

-- behind no prefix or a name there are five that are none of these, if these can be counted
pub five : (r : List ℕ) (xs : List (List ℕ)) → MayPrecede r → length xs < 2 ^ 64 → length (first_five r xs) ≡ 5
five r xs m h =
    let few : length (taken r xs 0 (length xs + 6)) ≤ length (codes "hole" ∷ xs) = length-le_from_is_member nat_list_eq_equiv (taken r xs 0 (length xs + 6)) (codes "hole" ∷ xs)
    (taken_distinct r xs 0 (length xs + 6) (omega (arith, h))) (all_among r xs 0 (length xs + 6) m (omega (arith, h))) in
    let most = at_most r xs 5 0 (length xs + 6) in
    elim (found_or_taken r xs 5 0 (length xs + 6)) [ inl e ↦ e | inr e ↦ omega (arith, few, most, e) ]

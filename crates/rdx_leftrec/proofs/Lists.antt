-- Lists and their places.
use Rattle.std.proofs.Common.{◌≡◌, ℕ, zero, suc, ◌+◌, ◌<◌, ◌≤◌, List, [], ◌∷◌, ◌++◌, length, get_or, set, take, drop, map, refl, sym, ◌∙◌, ap, subst, ◌⊎◌, inl, inr, arith, append_assoc}
use Rattle.std.proofs.lemmas.List.{length-set}
use Rattle.std.proofs.lemmas.Bool.{cases_lt}
use Rattle.std.proofs.Math.Seq.{set-append_seam}
use Rattle.rdx_lang.specs.Members.{In, here, there}
use Rattle.rdx_leftrec.specs.Inside.Lists.{At, with_all}

-- what is read at a place stands there
pub at_read : {A : Type 0} (xs : List A) (i : ℕ) (x : A) → i < length xs → x ≡ get_or xs i x → At xs i x
at_read [] i x h e = absurd (omega arith)
at_read (y ∷ ys) zero x h e = e
at_read (y ∷ ys) (suc i) x h e = at_read ys i x (omega arith) e

-- what is made of it stands there among what is made of all
pub at_mapped : {A B : Type 0} (f : A → B) (xs : List A) (i : ℕ) (x : A) → i < length xs → x ≡ get_or xs i x → At (map f xs) i (f x)
at_mapped f [] i x h e = absurd (omega arith)
at_mapped f (y ∷ ys) zero x h e = ap f e
at_mapped f (y ∷ ys) (suc i) x h e = at_mapped f ys i x (omega arith) e

-- something stands at each place
pub at_inside : {A : Type 0} (xs : List A) (i : ℕ) → i < length xs → (x : A) × At xs i x
at_inside [] i h = absurd (omega arith)
at_inside (y ∷ ys) zero h = (y, refl)
at_inside (y ∷ ys) (suc i) h = at_inside ys i (omega arith)

-- where something stands is a place
pub at-length : {A : Type 0} (xs : List A) (i : ℕ) (x : A) → At xs i x → i < length xs
at-length [] i x h = absurd h
at-length (y ∷ ys) zero x h = omega arith
at-length (y ∷ ys) (suc i) x h = let k = at-length ys i x h in omega arith

-- what stands at a place is a member
pub at-in : {A : Type 0} (xs : List A) (i : ℕ) (x : A) → At xs i x → In x xs
at-in [] i x h = absurd h
at-in (y ∷ ys) zero x h = here h
at-in (y ∷ ys) (suc i) x h = there (at-in ys i x h)

-- a member stands at a place
pub in-at : {A : Type 0} (xs : List A) (x : A) → In x xs → (i : ℕ) × At xs i x
in-at [] x h = elim h [ ]
in-at (y ∷ ys) x (here e) = (0, e)
in-at (y ∷ ys) x (there h) = let k : (i : ℕ) × At ys i x = in-at ys x h in (suc k.0, k.1)

-- one thing stands at a place
pub at_same : {A : Type 0} (xs : List A) (i : ℕ) (x y : A) → At xs i x → At xs i y → x ≡ y
at_same [] i x y h k = absurd h
at_same (z ∷ zs) zero x y h k = h ∙ sym k
at_same (z ∷ zs) (suc i) x y h k = at_same zs i x y h k

-- what is made of it stands at its place
pub at-map : {A B : Type 0} (f : A → B) (xs : List A) (i : ℕ) (x : A) (d : B) → At xs i x → get_or (map f xs) i d ≡ f x
at-map f [] i x d h = absurd h
at-map f (y ∷ ys) zero x d h = ap f (sym h)
at-map f (y ∷ ys) (suc i) x d h = at-map f ys i x d h

-- what stands before and behind a place
pub at-split : {A : Type 0} (xs : List A) (i : ℕ) (x : A) → At xs i x → xs ≡ take i xs ++ x ∷ drop (suc i) xs
at-split [] i x h = absurd h
at-split (y ∷ ys) zero x h = ap (λ z. z ∷ ys) (sym h)
at-split (y ∷ ys) (suc i) x h = ap (λ zs. y ∷ zs) (at-split ys i x h)

-- a member of the front stands at a place in it
pub in-take : {A : Type 0} (xs : List A) (i : ℕ) (x : A) → In x (take i xs) → (k : ℕ) × (k < i) × At xs k x
in-take xs zero x h = elim h [ ]
in-take [] (suc i) x h = elim h [ ]
in-take (y ∷ ys) (suc i) x (here e) = (0, omega arith, e)
in-take (y ∷ ys) (suc i) x (there h) = let k : (k : ℕ) × (k < i) × At ys k x = in-take ys i x h in (suc k.0, let l : k.0 < i = k.1 in omega arith, k.2)

-- what is read at a place is a member
pub read-in : {A : Type 0} (xs : List A) (i : ℕ) (d : A) → i < length xs → In (get_or xs i d) xs
read-in [] i d h = absurd (omega arith)
read-in (y ∷ ys) zero d h = here refl
read-in (y ∷ ys) (suc i) d h = there (read-in ys i d (omega arith))

-- what is written at a place that was kept stands before all that came behind it
pub set_kept : (xs ys : List ℕ) (n a : ℕ) → n ≡ length xs → set ((xs ++ 0 ∷ []) ++ ys) n a ≡ xs ++ a ∷ ys
set_kept xs ys n a e = subst (λ (i : ℕ). set ((xs ++ 0 ∷ []) ++ ys) i a ≡ xs ++ a ∷ ys) (sym e)
    (ap (λ (zs : List ℕ). set zs (length xs) a) (append_assoc xs (0 ∷ []) ys) ∙ set-append_seam xs 0 ys a)

-- so it does in lists that came one of the other
pub written : (old pushed inner new rest : List ℕ) (at a : ℕ) → at ≡ length old → pushed ≡ old ++ 0 ∷ [] → inner ≡ pushed ++ rest → new ≡ set inner at a → new ≡ old ++ a ∷ rest
written old pushed inner new rest at a e f g h = h ∙ ap (λ (xs : List ℕ). set xs at a) (g ∙ ap (λ (xs : List ℕ). xs ++ rest) f) ∙ set_kept old rest at a e

-- two places are one or not
pub cases_eq : (i j : ℕ) → (i ≡ j) ⊎ ¬ (i ≡ j)
cases_eq zero zero = inl refl
cases_eq zero (suc j) = inr (λ e. absurd (omega arith))
cases_eq (suc i) zero = inr (λ e. absurd (omega arith))
cases_eq (suc i) (suc j) = elim (cases_eq i j) [ inl e ↦ inl (ap suc e) | inr n ↦ inr (λ (e : suc i ≡ suc j). n (omega arith)) ]

-- ---- places of a list and of its parts

-- in a longer list
pub at-left : {A : Type 0} (xs ys : List A) (i : ℕ) (x : A) → At xs i x → At (xs ++ ys) i x
at-left [] ys i x h = absurd h
at-left (z ∷ zs) ys zero x h = h
at-left (z ∷ zs) ys (suc i) x h = at-left zs ys i x h

-- at the end
pub at-end : {A : Type 0} (xs : List A) (x : A) → At (xs ++ x ∷ []) (length xs) x
at-end [] x = refl
at-end (z ∷ zs) x = at-end zs x

-- before the end, or there
pub at-append : {A : Type 0} (xs : List A) (y : A) (i : ℕ) (x : A) → At (xs ++ y ∷ []) i x → At xs i x ⊎ ((i ≡ length xs) × (x ≡ y))
at-append [] y zero x h = inr (refl, h)
at-append [] y (suc i) x h = absurd h
at-append (z ∷ zs) y zero x h = inl h
at-append (z ∷ zs) y (suc i) x h = elim (at-append zs y i x h) [ inl k ↦ inl k | inr k ↦ inr (ap suc k.0, k.1) ]

-- in the front
pub at-take : {A : Type 0} (xs : List A) (n i : ℕ) (x : A) → At (take n xs) i x → (i < n) × At xs i x
at-take [] zero i x h = absurd h
at-take [] (suc n) i x h = absurd h
at-take (z ∷ zs) zero i x h = absurd h
at-take (z ∷ zs) (suc n) zero x h = (omega arith, h)
at-take (z ∷ zs) (suc n) (suc i) x h = let k : (i < n) × At zs i x = at-take zs n i x h in (let l : i < n = k.0 in omega arith, k.1)

-- what stands there, from the whole
pub take-at : {A : Type 0} (xs : List A) (n i : ℕ) (x : A) → At xs i x → i < n → At (take n xs) i x
take-at [] n i x h l = absurd h
take-at (z ∷ zs) zero i x h l = absurd (omega arith)
take-at (z ∷ zs) (suc n) zero x h l = h
take-at (z ∷ zs) (suc n) (suc i) x h l = take-at zs n i x h (omega arith)

-- a member of the rest stands behind the front
pub drop-in : {A : Type 0} (xs : List A) (n : ℕ) (x : A) → In x (drop n xs) → (i : ℕ) × (n ≤ i) × At xs i x
drop-in xs zero x h = let k : (i : ℕ) × At xs i x = in-at xs x h in (k.0, omega arith, k.1)
drop-in [] (suc n) x h = elim h [ ]
drop-in (z ∷ zs) (suc n) x h = let k : (i : ℕ) × (n ≤ i) × At zs i x = drop-in zs n x h in (suc k.0, let l : n ≤ k.0 = k.1 in omega arith, k.2)

-- what stands behind the front is a member of the rest
pub at-drop : {A : Type 0} (xs : List A) (n i : ℕ) (x : A) → At xs i x → n ≤ i → In x (drop n xs)
at-drop xs zero i x h l = at-in xs i x h
at-drop [] (suc n) i x h l = absurd h
at-drop (z ∷ zs) (suc n) zero x h l = absurd (omega arith)
at-drop (z ∷ zs) (suc n) (suc i) x h l = at-drop zs n i x h (omega arith)

-- what is read where x stands
pub read-at : {A : Type 0} (xs : List A) (i : ℕ) (x d : A) → At xs i x → get_or xs i d ≡ x
read-at [] i x d h = absurd h
read-at (z ∷ zs) zero x d h = sym h
read-at (z ∷ zs) (suc i) x d h = read-at zs i x d h

-- ---- writing

-- what was written stands there
pub set-here : {A : Type 0} (xs : List A) (i : ℕ) (x : A) → i < length xs → At (set xs i x) i x
set-here [] i x h = absurd (omega arith)
set-here (z ∷ zs) zero x h = refl
set-here (z ∷ zs) (suc i) x h = set-here zs i x (omega arith)

-- what stands elsewhere stays
pub set-other : {A : Type 0} (xs : List A) (i j : ℕ) (x y : A) → ¬ (j ≡ i) → At xs j y → At (set xs i x) j y
set-other [] i j x y n h = absurd h
set-other (z ∷ zs) zero zero x y n h = absurd (n refl)
set-other (z ∷ zs) zero (suc j) x y n h = h
set-other (z ∷ zs) (suc i) zero x y n h = h
set-other (z ∷ zs) (suc i) (suc j) x y n h = set-other zs i j x y (λ e. n (ap suc e)) h

-- what stands there was written, or stood there
pub at-set : {A : Type 0} (xs : List A) (i j : ℕ) (x y : A) → At (set xs i x) j y → ((j ≡ i) × (y ≡ x)) ⊎ (¬ (j ≡ i) × At xs j y)
at-set [] i j x y h = absurd h
at-set (z ∷ zs) zero zero x y h = inl (refl, h)
at-set (z ∷ zs) zero (suc j) x y h = inr ((λ e. absurd (omega arith)), h)
at-set (z ∷ zs) (suc i) zero x y h = inr ((λ e. absurd (omega arith)), h)
at-set (z ∷ zs) (suc i) (suc j) x y h = elim (at-set zs i j x y h) [
  | inl k ↦ inl (ap suc k.0, k.1)
  | inr k ↦ inr ((λ (e : suc j ≡ suc i). k.0 (omega arith)), k.1)
]

-- writing at many places keeps the length
pub length-with_all : {A : Type 0} (xs : List A) (is : List ℕ) (x : A) → length (with_all xs is x) ≡ length xs
length-with_all xs [] x = refl
length-with_all xs (i ∷ is) x = length-with_all (set xs i x) is x ∙ length-set xs i x

-- what was written at one of them stands there
pub with_all-here : {A : Type 0} (xs : List A) (is : List ℕ) (j : ℕ) (x : A) → In j is → j < length xs → At (with_all xs is x) j x
with_all-here xs [] j x h l = elim h [ ]
with_all-here {A} xs (i ∷ is) j x (here e) l = subst (λ (k : ℕ). At (with_all (set xs i x) is x) k x) (sym e) (kept is (set xs i x) (set-here xs i x (omega arith)))
  where
    kept : (ks : List ℕ) (ys : List A) → At ys i x → At (with_all ys ks x) i x
    kept [] ys h = h
    kept (k ∷ ks) ys h = kept ks (set ys k x) (written ys k h)
      where
        written : (ys : List A) (k : ℕ) → At ys i x → At (set ys k x) i x
        written ys k h = elim (cases_eq i k) [ inl d ↦ subst (λ (m : ℕ). At (set ys m x) i x) d (set-here ys i x (at-length ys i x h)) | inr n ↦ set-other ys k i x x n h ]
with_all-here xs (i ∷ is) j x (there h) l = with_all-here (set xs i x) is j x h (let m = length-set xs i x in omega arith)

-- what stands elsewhere stays
pub with_all-other : {A : Type 0} (xs : List A) (is : List ℕ) (j : ℕ) (x y : A) → ¬ In j is → At xs j y → At (with_all xs is x) j y
with_all-other xs [] j x y n h = h
with_all-other xs (i ∷ is) j x y n h = with_all-other (set xs i x) is j x y (λ k. n (there k)) (set-other xs i j x y (λ e. n (here e)) h)

-- what stands there was written, or stood there
pub at-with_all : {A : Type 0} (xs : List A) (is : List ℕ) (j : ℕ) (x y : A) → At (with_all xs is x) j y → (In j is × (y ≡ x)) ⊎ (¬ In j is × At xs j y)
at-with_all xs [] j x y h = inr ((λ k. elim k [ ]), h)
at-with_all xs (i ∷ is) j x y h = elim (at-with_all (set xs i x) is j x y h) [
  | inl k ↦ inl (there k.0, k.1)
  | inr k ↦ elim (at-set xs i j x y k.1) [ inl l ↦ inl (here l.0, l.1) | inr l ↦ inr (neither k.0 l.0, l.1) ]
]
  where
    neither : ¬ In j is → ¬ (j ≡ i) → ¬ In j (i ∷ is)
    neither n m (here e) = m e
    neither n m (there k) = n k

-- a member of the rest that isn't its first
pub behind-first : (xs : List ℕ) (i j : ℕ) → In j (drop i xs) → ¬ (get_or xs i 0 ≡ j) → In j (drop (i + 1) xs)
behind-first xs i j h n =
    let a = drop-in xs i j h in
    let l : i ≤ a.0 = a.1 in
    elim (cases_lt i a.0) [
      | inl m ↦ at-drop xs (i + 1) a.0 j a.2 (omega arith)
      | inr m ↦ absurd (n (read-at xs i j 0 (subst (λ (k : ℕ). At xs k j) (omega arith) a.2)))
    ]

-- nothing is left behind the end
pub none-behind : {A : Type 0} (xs : List A) (i : ℕ) (x : A) → length xs ≤ i → In x (drop i xs) → ⊥
none-behind xs i x l h = let a = drop-in xs i x h in let m : i ≤ a.0 = a.1 in let k = at-length xs a.0 x a.2 in omega arith

-- Lists whose members are related to all behind them.
use Rattle.std.proofs.Common.{◌≡◌, ℕ, zero, suc, ◌-◌, ◌<◌, ◌≤◌, List, [], ◌∷◌, ◌++◌, length, get_or, take, drop, Option, Some, unwrap_or, refl, sym, ◌∙◌, ap, subst, ◌⊎◌, inl, inr, arith}
use Rattle.std.proofs.lemmas.Bool.{cases_lt}
use Rattle.std.proofs.lemmas.Option.{unwrap_or-slice_get}
use Rattle.std.specs.List.{slice_get}
use Rattle.rdx_lang.proofs.MemberLaws.{in-append, append-left, append-right}
use Rattle.rdx_lang.specs.Members.{In, here, there}
use Rattle.rdx_leftrec.specs.Inside.Lists.{At, IsSorted}
use Rattle.rdx_leftrec.proofs.Lists.{at_read, at-in, in-at, in-take, at_inside, at_same, at-length, at-drop, read-at, take-at}

module _ {A : Type 0} (R : A → A → Type 0) where
  -- what stands before is related to what stands behind
  pub sorted-at : (xs : List A) (i j : ℕ) (x y : A) → IsSorted R xs → i < j → At xs i x → At xs j y → R x y
  sorted-at [] i j x y s l h k = absurd h
  sorted-at (z ∷ zs) zero zero x y s l h k = absurd (omega arith)
  sorted-at (z ∷ zs) (suc i) zero x y s l h k = absurd (omega arith)
  sorted-at (z ∷ zs) zero (suc j) x y s l h k = subst (λ (v : A). R v y) (sym h) (s.0 y (at-in zs j y k))
  sorted-at (z ∷ zs) (suc i) (suc j) x y s l h k = sorted-at zs i j x y s.1 (omega arith) h k

  -- the front of a sorted list is sorted
  pub sorted-front : (xs ys : List A) → IsSorted R (xs ++ ys) → IsSorted R xs
  sorted-front [] ys s = tt
  sorted-front (x ∷ xs) ys s = ((λ y h. s.0 y (append-left xs ys y h)), sorted-front xs ys s.1)

  -- and so are its first members
  pub sorted-take : (xs : List A) (n : ℕ) → IsSorted R xs → IsSorted R (take n xs)
  sorted-take [] zero s = tt
  sorted-take [] (suc n) s = tt
  sorted-take (x ∷ xs) zero s = tt
  sorted-take (x ∷ xs) (suc n) s = ((λ y h. let k = in-take xs n y h in s.0 y (at-in xs k.0 y k.2)), sorted-take xs n s.1)

  -- members of the front are related to those behind it
  pub sorted-across : (xs ys : List A) (x y : A) → IsSorted R (xs ++ ys) → In x xs → In y ys → R x y
  sorted-across [] ys x y s h k = elim h [ ]
  sorted-across (z ∷ zs) ys x y s (here e) k = subst (λ (v : A). R v y) (sym e) (s.0 y (append-right zs ys y k))
  sorted-across (z ∷ zs) ys x y s (there h) k = sorted-across zs ys x y s.1 h k

  -- two sorted lists one behind the other
  pub sorted-append : (xs ys : List A) → IsSorted R xs → IsSorted R ys → ((x y : A) → In x xs → In y ys → R x y) → IsSorted R (xs ++ ys)
  sorted-append [] ys s t h = t
  sorted-append (x ∷ xs) ys s t h = (first, sorted-append xs ys s.1 t (λ v y i k. h v y (there i) k))
    where
      first : (y : A) → In y (xs ++ ys) → R x y
      first y i = elim (in-append xs ys y i) [ inl k ↦ s.0 y k | inr k ↦ h x y (here refl) k ]

-- the members of the first k are those that are at most p, where the last of them is, and all behind them are above it
pub kept-members : (xs : List ℕ) (k p : ℕ) → IsSorted (λ a b. a < b) xs → k ≤ length xs → ((b : ℕ) → In b (drop k xs) → p < b) → (0 < k → get_or xs (k - 1) 0 ≤ p)
    → (b : ℕ) → (In b (take k xs) → In b xs × (b ≤ p)) × (In b xs × (b ≤ p) → In b (take k xs))
kept-members xs k p s m above last b = (forth, back)
  where
    by_place : (i : ℕ) → i < k → At xs i b → b ≤ p
    by_place i l a = elim (cases_lt i (k - 1)) [
      | inl n ↦
          let c : (c : ℕ) × At xs (k - 1) c = at_inside xs (k - 1) (omega arith) in
          let d : b < c.0 = sorted-at (λ v w. v < w) xs i (k - 1) b c.0 s n a c.1 in
          let e : get_or xs (k - 1) 0 ≡ c.0 = read-at xs (k - 1) c.0 0 c.1 in
          let f : get_or xs (k - 1) 0 ≤ p = last (omega arith) in
          omega arith
      | inr n ↦
          let d : i ≡ k - 1 = omega arith in
          let e : get_or xs (k - 1) 0 ≡ b = read-at xs (k - 1) b 0 (subst (λ (j : ℕ). At xs j b) d a) in
          let f : get_or xs (k - 1) 0 ≤ p = last (omega arith) in
          omega arith
    ]

    forth : In b (take k xs) → In b xs × (b ≤ p)
    forth h = let a : (i : ℕ) × (i < k) × At xs i b = in-take xs k b h in (at-in xs a.0 b a.2, by_place a.0 a.1 a.2)

    back : In b xs × (b ≤ p) → In b (take k xs)
    back h =
        let a : (i : ℕ) × At xs i b = in-at xs b h.0 in
        elim (cases_lt a.0 k) [
          | inl l ↦ at-in (take k xs) a.0 b (take-at xs k a.0 b a.1 l)
          | inr l ↦ absurd (let n = above b (at-drop xs k a.0 b a.1 l) in let o : b ≤ p = h.1 in omega arith)
        ]

-- all that is sorted with the last is related to it, or is it
pub sorted-last : {A : Type 0} (R : A → A → Type 0) (xs : List A) (x y : A) → IsSorted R xs → slice_get xs (length xs - 1) ≡ Some y → In x xs → R x y ⊎ (x ≡ y)
sorted-last {A} R xs x y s e h =
    let a : (i : ℕ) × At xs i x = in-at xs x h in
    let l : a.0 < length xs = at-length xs a.0 x a.1 in
    let m : length xs - 1 < length xs = omega arith in
    let f : y ≡ get_or xs (length xs - 1) y = sym (sym (unwrap_or-slice_get xs (length xs - 1) y) ∙ ap (λ (o : Option A). unwrap_or o y) e) in
    let b : At xs (length xs - 1) y = at_read xs (length xs - 1) y m f in
    elim (cases_lt a.0 (length xs - 1)) [
      | inl n ↦ inl (sorted-at R xs a.0 (length xs - 1) x y s n a.1 b)
      | inr n ↦ let d : a.0 ≡ length xs - 1 = omega arith in inr (at_same xs (length xs - 1) x y (subst (λ (i : ℕ). At xs i x) d a.1) b)
    ]

-- the last of an ascending list is the greatest
pub most-last : (xs front : List ℕ) (b c : ℕ) → IsSorted (λ x y. x < y) xs → xs ≡ front ++ b ∷ [] → In c xs → c ≤ b
most-last xs front b c s e h = elim (in-append front (b ∷ []) c (subst (λ (ys : List ℕ). In c ys) e h)) [
  | inl k ↦ (let l = sorted-across (λ x y. x < y) front (b ∷ []) c b (subst (λ (ys : List ℕ). IsSorted (λ x y. x < y) ys) e s) k (here refl) in omega arith)
  | inr k ↦ alone k
]
  where
    alone : In c (b ∷ []) → c ≤ b
    alone (here d) = omega arith
    alone (there k) = elim k [ ]

-- Marks of places, one after the other.
use Rattle.std.proofs.Common.{◌≡◌, ℕ, zero, suc, ◌+◌, ◌<◌, ◌≤◌, Bool, true, false, List, [], ◌∷◌, ◌++◌, length, get_or, set, take, drop, refl, sym, ◌∙◌, ap, subst, ◌⊎◌, inl, inr, arith}
use Rattle.std.proofs.lemmas.List.{length-set, get_or-set_same, get_or-set_other, take_more, take_all, drop_more, drop_all}
use Rattle.rdx_lang.proofs.MemberLaws.{in-append, append-left, append-right}
use Rattle.rdx_lang.specs.Members.{In, here, there}
use Rattle.rdx_gen.specs.Inside.Places.{list_at}
use Rattle.rdx_gen.specs.Inside.Waiting.{IsMarked, Marks, AreListed, IsWoken}
use Rattle.rdx_gen.specs.declared.height.Height.{Height}

-- two places are one or not
pub cases_eq : (i j : ℕ) → (i ≡ j) ⊎ (i ≡ j → ⊥)
cases_eq zero zero = inl refl
cases_eq zero (suc j) = inr (λ e. absurd (omega arith))
cases_eq (suc i) zero = inr (λ e. absurd (omega arith))
cases_eq (suc i) (suc j) = elim (cases_eq i j) [ inl e ↦ inl (ap suc e) | inr n ↦ inr (λ (e : suc i ≡ suc j). n (omega arith)) ]

-- there is a mark or not
pub cases_marked : (b : Bool) → (b ≡ true) ⊎ (b ≡ false)
cases_marked true = inl refl
cases_marked false = inr refl

pub not_both : (b : Bool) → b ≡ true → b ≡ false → ⊥
not_both true h k = absurd cc
not_both false h k = absurd cc

pub not_marked : (b : Bool) → (b ≡ true → ⊥) → b ≡ false
not_marked true h = absurd (h refl)
not_marked false h = refl

-- a mark stands at a place
pub marked-inside : (ms : List Bool) (j : ℕ) → IsMarked ms j → j < length ms
marked-inside [] j h = absurd cc
marked-inside (m ∷ ms) zero h = omega arith
marked-inside (m ∷ ms) (suc j) h = let k = marked-inside ms j h in omega arith

-- a place that gets a mark
pub mark-new : (ms : List Bool) (ls : List ℕ) (i : ℕ) → i < length ms → Marks (λ j. j ≡ i) ms (set ms i true) ls (ls ++ i ∷ [])
mark-new ms ls i l = record {
  size = length-set ms i true;
  kept = λ j h. elim (cases_eq j i) [
    | inl e ↦ subst (λ k. IsMarked (set ms i true) k) (sym e) (get_or-set_same ms i true false (subst (λ k. k < length ms) e (marked-inside ms j h)))
    | inr n ↦ get_or-set_other ms i j true false n ∙ h
  ];
  marked = λ j e m. subst (λ k. IsMarked (set ms i true) k) (sym e) (get_or-set_same ms i true false l);
  only = λ j h. elim (cases_eq j i) [ inl e ↦ inr e | inr n ↦ inl (sym (get_or-set_other ms i j true false n) ∙ h) ];
  fresh = λ j h. elim (cases_eq j i) [ inl e ↦ inr (append-right ls (i ∷ []) j (here e)) | inr n ↦ inl (sym (get_or-set_other ms i j true false n) ∙ h) ];
  kept_listed = λ j h. append-left ls (i ∷ []) j h;
  listed_marked = λ j h. elim (in-append ls (i ∷ []) j h) [ inl k ↦ inl k | inr k ↦ inr (last j k) ];
}
  where
    last : (j : ℕ) → In j (i ∷ []) → IsMarked (set ms i true) j
    last j (here e) = subst (λ k. IsMarked (set ms i true) k) (sym e) (get_or-set_same ms i true false l)
    last j (there k) = elim k [ ]

-- one that has it, or is none
pub mark-same : (ms : List Bool) (ls : List ℕ) (i : ℕ) → (i < length ms → IsMarked ms i) → Marks (λ j. j ≡ i) ms ms ls ls
mark-same ms ls i f = record {
  size = refl;
  kept = λ j h. h;
  marked = λ j e l. subst (λ k. IsMarked ms k) (sym e) (f (subst (λ k. k < length ms) e l));
  only = λ j h. inl h;
  fresh = λ j h. inl h;
  kept_listed = λ j h. h;
  listed_marked = λ j h. inl h;
}

-- no place is marked
pub marks-none : (P : ℕ → Type 0) (ms : List Bool) (ls : List ℕ) → ((j : ℕ) → P j → ⊥) → Marks P ms ms ls ls
marks-none P ms ls n = record {
  size = refl;
  kept = λ j h. h;
  marked = λ j p l. absurd (n j p);
  only = λ j h. inl h;
  fresh = λ j h. inl h;
  kept_listed = λ j h. h;
  listed_marked = λ j h. inl h;
}

-- some, and then others
pub marks-both : (P Q R : ℕ → Type 0) (ks bs cs : List Bool) (ls ms ns : List ℕ) → ((j : ℕ) → R j → P j ⊎ Q j) → ((j : ℕ) → P j → R j) → ((j : ℕ) → Q j → R j)
    → Marks P ks bs ls ms → Marks Q bs cs ms ns → Marks R ks cs ls ns
marks-both P Q R ks bs cs ls ms ns f g h a b = record {
  size = b.size ∙ a.size;
  kept = λ j k. b.kept j (a.kept j k);
  marked = λ j r l. elim (f j r) [
    | inl p ↦ b.kept j (a.marked j p l)
    | inr q ↦ b.marked j q (subst (λ n. j < n) (sym a.size) l)
  ];
  only = λ j k. elim (b.only j k) [
    | inl m ↦ elim (a.only j m) [ inl n ↦ inl n | inr p ↦ inr (g j p) ]
    | inr q ↦ inr (h j q)
  ];
  fresh = λ j k. elim (b.fresh j k) [
    | inl m ↦ elim (a.fresh j m) [ inl n ↦ inl n | inr i ↦ inr (b.kept_listed j i) ]
    | inr i ↦ inr i
  ];
  kept_listed = λ j i. b.kept_listed j (a.kept_listed j i);
  listed_marked = λ j i. elim (b.listed_marked j i) [
    | inl k ↦ elim (a.listed_marked j k) [ inl n ↦ inl n | inr m ↦ inr (b.kept j m) ]
    | inr m ↦ inr m
  ];
}

-- the same places, said otherwise
pub marks-same : (P Q : ℕ → Type 0) (ks bs : List Bool) (ls ms : List ℕ) → ((j : ℕ) → P j → Q j) → ((j : ℕ) → Q j → P j) → Marks P ks bs ls ms → Marks Q ks bs ls ms
marks-same P Q ks bs ls ms f g a = record {
  size = a.size;
  kept = a.kept;
  marked = λ j q l. a.marked j (g j q) l;
  only = λ j k. elim (a.only j k) [ inl m ↦ inl m | inr p ↦ inr (f j p) ];
  fresh = a.fresh;
  kept_listed = a.kept_listed;
  listed_marked = a.listed_marked;
}

-- a member of one more
pub in-more : {A : Type 0} (xs : List A) (i : ℕ) (d x : A) → i < length xs → In x (take (i + 1) xs) → In x (take i xs) ⊎ (x ≡ get_or xs i d)
in-more {A} xs i d x l h = elim (in-append (take i xs) (get_or xs i d ∷ []) x (subst (λ (ys : List A). In x ys) (take_more xs i d l) h)) [
  | inl k ↦ inl k
  | inr k ↦ inr (only k)
]
  where
    only : In x (get_or xs i d ∷ []) → x ≡ get_or xs i d
    only (here e) = e
    only (there k) = elim k [ ]

pub more-old : {A : Type 0} (xs : List A) (i : ℕ) (d x : A) → i < length xs → In x (take i xs) → In x (take (i + 1) xs)
more-old {A} xs i d x l h = subst (λ (ys : List A). In x ys) (sym (take_more xs i d l)) (append-left (take i xs) (get_or xs i d ∷ []) x h)

pub more-new : {A : Type 0} (xs : List A) (i : ℕ) (d x : A) → i < length xs → x ≡ get_or xs i d → In x (take (i + 1) xs)
more-new {A} xs i d x l e = subst (λ (ys : List A). In x ys) (sym (take_more xs i d l)) (append-right (take i xs) (get_or xs i d ∷ []) x (here e))

pub in-whole : {A : Type 0} (xs : List A) (i : ℕ) (x : A) → length xs ≤ i → In x xs → In x (take i xs)
in-whole {A} xs i x l h = subst (λ (ys : List A). In x ys) (sym (take_all i xs l)) h

pub whole-in : {A : Type 0} (xs : List A) (i : ℕ) (x : A) → length xs ≤ i → In x (take i xs) → In x xs
whole-in {A} xs i x l h = subst (λ (ys : List A). In x ys) (take_all i xs l) h

-- one place more of a list
pub marks-more : (xs : List ℕ) (i : ℕ) (ks bs cs : List Bool) (ls ms ns : List ℕ) → i < length xs
    → Marks (λ j. In j (take i xs)) ks bs ls ms → Marks (λ j. j ≡ get_or xs i 0) bs cs ms ns → Marks (λ j. In j (take (i + 1) xs)) ks cs ls ns
marks-more xs i ks bs cs ls ms ns l a b =
    marks-both (λ j. In j (take i xs)) (λ j. j ≡ get_or xs i 0) (λ j. In j (take (i + 1) xs)) ks bs cs ls ms ns
    (λ j h. in-more xs i 0 j l h) (λ j h. more-old xs i 0 j l h) (λ j h. more-new xs i 0 j l h) a b

-- all of them
pub marks-whole : (xs : List ℕ) (i : ℕ) (ks bs : List Bool) (ls ms : List ℕ) → length xs ≤ i → Marks (λ j. In j (take i xs)) ks bs ls ms → Marks (λ j. In j xs) ks bs ls ms
marks-whole xs i ks bs ls ms l a = marks-same (λ j. In j (take i xs)) (λ j. In j xs) ks bs ls ms (λ j h. whole-in xs i j l h) (λ j h. in-whole xs i j l h) a

-- ---- the users of places at which something was found

pub woken-more : (us : List (List ℕ)) (ps : List (ℕ × Height)) (i : ℕ) (p : ℕ × Height) (ks bs cs : List Bool) (ls ms ns : List ℕ) → i < length ps → p ≡ get_or ps i p
    → Marks (IsWoken us (take i ps)) ks bs ls ms → Marks (λ j. In j (list_at us p.0)) bs cs ms ns → Marks (IsWoken us (take (i + 1) ps)) ks cs ls ns
woken-more us ps i p ks bs cs ls ms ns l e a b =
    marks-both (IsWoken us (take i ps)) (λ j. In j (list_at us p.0)) (IsWoken us (take (i + 1) ps)) ks bs cs ls ms ns
    (λ j w. elim (in-more ps i p w.0 l w.1) [ inl k ↦ inl (w.0, k, w.2) | inr k ↦ inr (subst (λ (q : ℕ × Height). In j (list_at us q.0)) (k ∙ sym e) w.2) ])
    (λ j w. (w.0, more-old ps i p w.0 l w.1, w.2)) (λ j k. (p, more-new ps i p p l e, k)) a b

pub woken-whole : (us : List (List ℕ)) (ps : List (ℕ × Height)) (i : ℕ) (ks bs : List Bool) (ls ms : List ℕ) → length ps ≤ i → Marks (IsWoken us (take i ps)) ks bs ls ms → Marks (IsWoken us ps) ks bs ls ms
woken-whole us ps i ks bs ls ms l a =
    marks-same (IsWoken us (take i ps)) (IsWoken us ps) ks bs ls ms (λ j w. (w.0, whole-in ps i w.0 l w.1, w.2)) (λ j w. (w.0, in-whole ps i w.0 l w.1, w.2)) a

-- ---- taking marks away

in-first : (y j : ℕ) (ys : List ℕ) → In j (y ∷ ys) → (j ≡ y → ⊥) → In j ys
in-first y j ys (here e) n = absurd (n e)
in-first y j ys (there h) n = h

-- behind the first place of the rest
pub unmark-next : (ms : List Bool) (xs : List ℕ) (i : ℕ) → i < length xs → AreListed ms (drop i xs) → AreListed (set ms (get_or xs i 0) false) (drop (i + 1) xs)
unmark-next ms xs i l h j m = elim (cases_eq j (get_or xs i 0)) [
  | inl e ↦ absurd (gone e)
  | inr n ↦ in-first (get_or xs i 0) j (drop (i + 1) xs) (subst (λ (ys : List ℕ). In j ys) (drop_more xs i 0 l) (h j (sym (get_or-set_other ms (get_or xs i 0) j false false n) ∙ m))) n
]
  where
    gone : j ≡ get_or xs i 0 → ⊥
    gone e =
        let a : get_or (set ms (get_or xs i 0) false) (get_or xs i 0) false ≡ true = subst (λ k. get_or (set ms (get_or xs i 0) false) k false ≡ true) e m in
        let b = marked-inside (set ms (get_or xs i 0) false) (get_or xs i 0) a in
        not_both _ a (get_or-set_same ms (get_or xs i 0) false false (subst (λ k. get_or xs i 0 < k) (length-set ms (get_or xs i 0) false) b))

-- where the first place of the rest is none
pub unmark-past : (ms : List Bool) (xs : List ℕ) (i : ℕ) → i < length xs → length ms ≤ get_or xs i 0 → AreListed ms (drop i xs) → AreListed ms (drop (i + 1) xs)
unmark-past ms xs i l p h j m =
    in-first (get_or xs i 0) j (drop (i + 1) xs) (subst (λ (ys : List ℕ). In j ys) (drop_more xs i 0 l) (h j m))
    (λ e. let b = marked-inside ms j m in absurd (omega arith))

-- none is left
pub unmark-whole : (ms : List Bool) (xs : List ℕ) (i : ℕ) → length xs ≤ i → AreListed ms (drop i xs) → (j : ℕ) → get_or ms j false ≡ false
unmark-whole ms xs i l h j = not_marked (get_or ms j false) (λ m. elim (subst (λ (ys : List ℕ). In j ys) (drop_all i xs l) (h j m)) [ ])

-- Contexts around an item of a list, item by item.
use Rattle.std.proofs.Common.{◌≡◌, ◌≢◌, ℕ, zero, suc, ◌+◌, ◌<◌, true, false, Bool, List, [], ◌∷◌, length, drop, get_or, refl, sym, ◌∙◌, ap, subst, arith}
use Rattle.std.proofs.lemmas.Bool.{and_parts, eq-eqb, eqb-true}
use Rattle.std.specs.Prelude.{◌&&◌, ◌||◌, nat_eq}
use Rattle.rdx_term.specs.Tree.{Tree, Trees, nil, cons, trees}
use Rattle.rdx_term.specs.Items.{trees_count, item_at, put_at}
use Rattle.rdx_term.specs.View.{tree_of, trees_of}
use Rattle.rdx_term.specs.declared.term.Term as code_term
use Rattle.rdx_term.proofs.PutItems.{trees_count-trees_of, item_at-trees_of}
use Rattle.rdx_lang.proofs.Rest.{rest_at}
use Rattle.rdx_deriv.specs.Inside.Same.{same_tree}
use Rattle.rdx_deriv.specs.Inside.Around.{same_at, IsPut}
use Rattle.rdx_deriv.proofs.SamePatterns.{trees_equal, tree_itself}

either : (a b : Bool) → false ≡ b → false ≡ (a && b)
either true b e = e
either false b e = refl

-- lists of different lengths are not the same
counts : (i k : ℕ) (ts us : Trees) → (trees_count ts ≢ trees_count us) → false ≡ same_at i k ts us
counts i k nil nil h = absurd (h refl)
counts i k nil (cons u us) h = refl
counts i k (cons t ts) nil h = refl
counts i k (cons t ts) (cons u us) h = either (nat_eq i k || same_tree t u) (same_at (i + 1) k ts us) (counts (i + 1) k ts us (λ e. h (ap (λ n. n + 1) e)))

pub terms_lengths : (i k : ℕ) (xs ys : List code_term.Term) → (length xs ≢ length ys) → false ≡ same_at i k (trees_of xs) (trees_of ys)
terms_lengths i k xs ys h = counts i k (trees_of xs) (trees_of ys) (λ e. h (sym (trees_count-trees_of xs) ∙ e ∙ trees_count-trees_of ys))

-- the first terms, and the others
pub terms_at : (xs ys : List code_term.Term) (i k : ℕ) (x y : code_term.Term) → i < length xs → i < length ys → x ≡ get_or xs i x → y ≡ get_or ys i y
    → same_at i k (trees_of (drop i xs)) (trees_of (drop i ys))
    ≡ ((nat_eq i k || same_tree (tree_of x) (tree_of y)) && same_at (i + 1) k (trees_of (drop (i + 1) xs)) (trees_of (drop (i + 1) ys)))
terms_at xs ys i k x y h m e f =
    let a = rest_at tree_of xs i x h e in
    let b = rest_at tree_of ys i y m f in
    λ j. same_at i k (trees (a j)) (trees (b j))

-- ---- what the test says

other_place : (a b : Bool) → a ≡ false → (a || b) ≡ true → b ≡ true
other_place true b f g = absurd cc
other_place false b f g = g

places_differ : (m n : ℕ) → (m ≡ n → ⊥) → nat_eq m n ≡ false
places_differ m n h = by_test (nat_eq m n) refl
  where
    by_test : (r : Bool) → nat_eq m n ≡ r → r ≡ false
    by_test true e = absurd (h (eqb-true m n e))
    by_test false e = refl

-- behind the place all are the same
behind_same : (i k : ℕ) (ts us : Trees) → k < i → same_at i k ts us ≡ true → us ≡ ts
behind_same i k nil nil h e = refl
behind_same i k nil (cons u us) h e = absurd cc
behind_same i k (cons t ts) nil h e = absurd cc
behind_same i k (cons t ts) (cons u us) h e =
    let p = and_parts (nat_eq i k || same_tree t u) (same_at (i + 1) k ts us) e in
    let later : us ≡ ts = behind_same (i + 1) k ts us (omega arith) p.1 in
    let first : t ≡ u = trees_equal t u (other_place (nat_eq i k) (same_tree t u) (places_differ i k (λ m. absurd (omega arith))) p.0) in
    λ j. cons (sym first j) (later j)

or_right : (a b : Bool) → b ≡ true → (a || b) ≡ true
or_right true b e = refl
or_right false b e = e

or_left : (a b : Bool) → a ≡ true → (a || b) ≡ true
or_left true b e = refl
or_left false b e = absurd cc

and_both : (a b : Bool) → a ≡ true → b ≡ true → (a && b) ≡ true
and_both true b e f = f
and_both false b e f = absurd cc

same_itself : (i k : ℕ) (ts : Trees) → same_at i k ts ts ≡ true
same_itself i k nil = refl
same_itself i k (cons t ts) = and_both (nat_eq i k || same_tree t t) (same_at (i + 1) k ts ts) (or_right (nat_eq i k) (same_tree t t) (tree_itself t)) (same_itself (i + 1) k ts)

nat_itself : (n : ℕ) → nat_eq n n ≡ true
nat_itself n = eq-eqb n n refl

-- what is the same but at a place is put there
same_put : (i j k : ℕ) (ts us : Trees) (D : Tree) → j ≡ i + k → same_at i j ts us ≡ true → k < trees_count us → (k < trees_count ts) × (us ≡ put_at ts k (item_at us k D))
same_put i j k nil nil D n e h = absurd (omega arith)
same_put i j k nil (cons u us) D n e h = absurd cc
same_put i j k (cons t ts) nil D n e h = absurd cc
same_put i j zero (cons t ts) (cons u us) D n e h =
    let p = and_parts (nat_eq i j || same_tree t u) (same_at (i + 1) j ts us) e in
    let later : us ≡ ts = behind_same (i + 1) j ts us (omega arith) p.1 in
    (omega arith, ap (cons u) later)
same_put i j (suc k) (cons t ts) (cons u us) D n e h =
    let p = and_parts (nat_eq i j || same_tree t u) (same_at (i + 1) j ts us) e in
    let later = same_put (i + 1) j k ts us D (omega arith) p.1 (omega arith) in
    let first : t ≡ u = trees_equal t u (other_place (nat_eq i j) (same_tree t u) (places_differ i j (λ m. absurd (omega arith))) p.0) in
    let l = later.0 in
    (omega arith, λ m. cons (sym first m) (later.1 m))

-- and what is put there is the same elsewhere
put_same : (i j k : ℕ) (ts : Trees) (D : Tree) → j ≡ i + k → k < trees_count ts → (same_at i j ts (put_at ts k D) ≡ true) × (k < trees_count (put_at ts k D))
put_same i j k nil D n h = absurd (omega arith)
put_same i j zero (cons t ts) D n h =
    let e : i ≡ j = omega arith in
    let m : nat_eq i j ≡ true = subst (λ z. nat_eq i z ≡ true) e (nat_itself i) in
    (and_both (nat_eq i j || same_tree t D) (same_at (i + 1) j ts ts) (or_left (nat_eq i j) (same_tree t D) m) (same_itself (i + 1) j ts), omega arith)
put_same i j (suc k) (cons t ts) D n h =
    let later = put_same (i + 1) j k ts D (omega arith) (omega arith) in
    let l = later.1 in
    (and_both (nat_eq i j || same_tree t t) (same_at (i + 1) j ts (put_at ts k D)) (or_right (nat_eq i j) (same_tree t t) (tree_itself t)) later.0, omega arith)

-- ---- over the code's lists

pub inner_some : (xs ys : List code_term.Term) (k : ℕ) (y : code_term.Term) → k < length ys → same_at 0 k (trees_of xs) (trees_of ys) ≡ true → y ≡ get_or ys k y
    → IsPut (trees_of xs) (trees_of ys) k (tree_of y)
inner_some xs ys k y h e f =
    let n = trees_count-trees_of ys in
    let p = same_put 0 k k (trees_of xs) (trees_of ys) (tree_of y) (omega arith) e (omega arith) in
    let g : item_at (trees_of ys) k (tree_of y) ≡ tree_of y = item_at-trees_of ys k y ∙ ap tree_of (sym f) in
    record { there = p.0; put = p.1 ∙ ap (put_at (trees_of xs) k) g }

pub inner_none : (xs ys : List code_term.Term) (k : ℕ) (D : Tree) → IsPut (trees_of xs) (trees_of ys) k D → (k < length ys) × (same_at 0 k (trees_of xs) (trees_of ys) ≡ true)
inner_none xs ys k D p =
    let m = put_same 0 k k (trees_of xs) D (omega arith) p.there in
    let n = trees_count-trees_of ys in
    let c : k < trees_count (trees_of ys) = subst (λ us. k < trees_count us) (sym p.put) m.1 in
    (omega arith, subst (λ us. same_at 0 k (trees_of xs) us ≡ true) (sym p.put) m.0)

-- ---- a turn of the loop

element : (xs : List code_term.Term) (i : ℕ) → i < length xs → (x : code_term.Term) × (x ≡ get_or xs i x)
element [] i h = absurd (omega arith)
element (x ∷ xs) zero h = (x, refl)
element (x ∷ xs) (suc i) h = element xs i (omega arith)

module _ (xs ys : List code_term.Term) (i k : ℕ) where
  pub at_equal : (x y : code_term.Term) → i < length xs → i < length ys → x ≡ get_or xs i x → y ≡ get_or ys i y → same_tree (tree_of x) (tree_of y) ≡ true
      → same_at i k (trees_of (drop i xs)) (trees_of (drop i ys)) ≡ same_at 0 k (trees_of xs) (trees_of ys)
      → same_at (i + 1) k (trees_of (drop (i + 1) xs)) (trees_of (drop (i + 1) ys)) ≡ same_at 0 k (trees_of xs) (trees_of ys)
  at_equal x y h m e f t inv =
      let a = terms_at xs ys i k x y h m e f in
      let b : (nat_eq i k || same_tree (tree_of x) (tree_of y)) ≡ true = or_right (nat_eq i k) (same_tree (tree_of x) (tree_of y)) t in
      sym (ap (λ (z : Bool). z && same_at (i + 1) k (trees_of (drop (i + 1) xs)) (trees_of (drop (i + 1) ys))) b) ∙ sym a ∙ inv

  pub at_place : i < length xs → i < length ys → i ≡ k
      → same_at i k (trees_of (drop i xs)) (trees_of (drop i ys)) ≡ same_at 0 k (trees_of xs) (trees_of ys)
      → same_at (i + 1) k (trees_of (drop (i + 1) xs)) (trees_of (drop (i + 1) ys)) ≡ same_at 0 k (trees_of xs) (trees_of ys)
  at_place h m e inv =
      let x = element xs i h in
      let y = element ys i m in
      let a = terms_at xs ys i k x.0 y.0 h m x.1 y.1 in
      let n : nat_eq i k ≡ true = subst (λ z. nat_eq i z ≡ true) e (nat_itself i) in
      let b : (nat_eq i k || same_tree (tree_of x.0) (tree_of y.0)) ≡ true = or_left (nat_eq i k) (same_tree (tree_of x.0) (tree_of y.0)) n in
      sym (ap (λ (z : Bool). z && same_at (i + 1) k (trees_of (drop (i + 1) xs)) (trees_of (drop (i + 1) ys))) b) ∙ sym a ∙ inv

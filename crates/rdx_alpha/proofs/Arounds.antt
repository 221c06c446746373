-- The bodies around a place, innermost last in the code.
use Rattle.std.proofs.Common.{◌≡◌, ◌<◌, ◌+◌, ℕ, zero, suc, List, [], ◌∷◌, ◌++◌, Option, Some, None, option_map, take, length, get_or, refl, sym, ap, ◌∙◌, Vec, arith}
use Rattle.std.specs.declared.alloc.Global.{Global}
use Rattle.std.proofs.lemmas.List.{take_more}
use Rattle.rdx_alpha.specs.Nameless.{bound, place_in, bound_at, occurrence}
use Rattle.rdx_alpha.specs.Inside.Around.{around_of}
use Rattle.rdx_alpha.specs.Inside.Same.{behind}

-- one more is the innermost
pub around_of-more : (xs : List (Vec (List ℕ) Global)) (x : Vec (List ℕ) Global) → around_of (xs ++ x ∷ []) ≡ x.items ∷ around_of xs
around_of-more [] x = refl
around_of-more (y ∷ xs) x = ap (λ zs. zs ++ y.items ∷ []) (around_of-more xs x)

-- a place behind k + 1 others
pub behind-suc : (k : ℕ) (o : Option ℕ) → behind k (option_map suc o) ≡ behind (k + 1) o
behind-suc k None = refl
behind-suc k (Some j) = ap Some (let e : k + suc j ≡ k + 1 + j = omega arith in e)

-- behind no others a place stays
pub behind-none : (o : Option ℕ) → behind 0 o ≡ o
behind-none None = refl
behind-none (Some j) = ap Some (let e : 0 + j ≡ j = omega arith in e)

-- the innermost of some bodies, and those around it
innermost : (x : Vec (List ℕ) Global) (xs : List (Vec (List ℕ) Global)) → (n : List (List ℕ)) × (r : List (List (List ℕ))) × (around_of (x ∷ xs) ≡ n ∷ r)
innermost x [] = (x.items, [], refl)
innermost x (y ∷ ys) =
    let q = innermost y ys in
    (q.0, q.1 ++ x.items ∷ [], ap (λ zs. zs ++ x.items ∷ []) q.2)

first_is : (n m : List (List ℕ)) (r s : List (List (List ℕ))) → n ∷ r ≡ m ∷ s → r ≡ s
first_is n m r s e = ap tail e
  where
    tail : List (List (List ℕ)) → List (List (List ℕ))
    tail [] = []
    tail (z ∷ zs) = zs

-- without the innermost the others are left
pub without_last : (xs : List (Vec (List ℕ) Global)) (k : ℕ) (n : List (List ℕ)) (outer : List (List (List ℕ))) → k + 1 ≡ length xs → around_of xs ≡ n ∷ outer
    → around_of (take k xs) ≡ outer
without_last [] k n outer l h = absurd (omega arith)
without_last (x ∷ []) zero n outer l h = first_is x.items n [] outer h
without_last (x ∷ []) (suc k) n outer l h = absurd (omega arith)
without_last (x ∷ y ∷ ys) zero n outer l h = absurd (omega arith)
without_last (x ∷ y ∷ ys) (suc k) n outer l h =
    let q = innermost y ys in
    let e : around_of (take k (y ∷ ys)) ≡ q.1 = without_last (y ∷ ys) k q.0 q.1 (omega arith) q.2 in
    ap (λ zs. zs ++ x.items ∷ []) e
    ∙ first_is q.0 n (q.1 ++ x.items ∷ []) outer (sym (ap (λ zs. zs ++ x.items ∷ []) q.2) ∙ h)

-- where some body is around there is one
pub some_length : (xs : List (Vec (List ℕ) Global)) (n : List (List ℕ)) (outer : List (List (List ℕ))) → around_of xs ≡ n ∷ outer → 0 < length xs
some_length [] n outer h = absurd (cc)
some_length (x ∷ xs) n outer h = omega arith

-- one body further out
pub further_out : (xs : List (Vec (List ℕ) Global)) (k d : ℕ) (x : Vec (List ℕ) Global) (s : List ℕ) → k < length xs → x ≡ get_or xs k x → place_in s x.items ≡ None
    → occurrence d (around_of (take (k + 1) xs)) s ≡ occurrence (suc d) (around_of (take k xs)) s
further_out xs k d x s l e h =
    ap (λ ys. occurrence d (around_of ys) s) (take_more xs k x l ∙ ap (λ y. take k xs ++ y ∷ []) (sym e))
    ∙ ap (λ ys. occurrence d ys s) (around_of-more (take k xs) x)
    ∙ ap (λ o. bound_at d o (occurrence (suc d) (around_of (take k xs)) s)) h

-- the body that binds it
pub found_there : (xs : List (Vec (List ℕ) Global)) (k d p : ℕ) (x : Vec (List ℕ) Global) (s : List ℕ) → k < length xs → x ≡ get_or xs k x → place_in s x.items ≡ Some p
    → occurrence d (around_of (take (k + 1) xs)) s ≡ bound d p
found_there xs k d p x s l e h =
    ap (λ ys. occurrence d (around_of ys) s) (take_more xs k x l ∙ ap (λ y. take k xs ++ y ∷ []) (sym e))
    ∙ ap (λ ys. occurrence d ys s) (around_of-more (take k xs) x)
    ∙ ap (λ o. bound_at d o (occurrence (suc d) (around_of (take k xs)) s)) h

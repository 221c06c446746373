-- The first variant that is none of some names: step by step.
use Rattle.std.proofs.Common.{◌≡◌, ℕ, suc, ◌+◌, ◌-◌, ◌<◌, Bool, true, false, List, ap, ◌∙◌, if◌then◌else◌, bytes_eq, arith}
use Rattle.std.specs.List.{list_any}
use Rattle.rdx_lang.specs.Variants.{variant, first_from}

-- the choice at one number
at_number : (x : List ℕ) (names : List (List ℕ)) (k n : ℕ) (b : Bool) → k < n → list_any (bytes_eq (variant x k)) names ≡ b
    → first_from x names k (n - k) ≡ (if b then first_from x names (k + 1) (n - (k + 1)) else variant x k)
at_number x names k n b l e =
    let more : n - k ≡ suc (n - (k + 1)) = omega arith in
    let next : suc k ≡ k + 1 = omega arith in
    ap (first_from x names k) more ∙ (λ i. if e i then first_from x names (next i) (n - (k + 1)) else variant x k)

-- the variant of this number is free: it is the first one
pub first_here : (x : List ℕ) (names : List (List ℕ)) (k n : ℕ) → k < n → list_any (bytes_eq (variant x k)) names ≡ false
    → first_from x names k (n - k) ≡ variant x k
first_here x names k n l e = at_number x names k n false l e

-- it is taken: the first one comes behind it
pub first_behind : (x : List ℕ) (names : List (List ℕ)) (k n : ℕ) → k < n → list_any (bytes_eq (variant x k)) names ≡ true
    → first_from x names k (n - k) ≡ first_from x names (k + 1) (n - (k + 1))
first_behind x names k n l e = at_number x names k n true l e

-- as many as there are names were taken: it is the next one
pub first_at_end : (x : List ℕ) (names : List (List ℕ)) (k n : ℕ) → k ≡ n → first_from x names k (n - k) ≡ variant x n
first_at_end x names k n e =
    let none : n - k ≡ 0 = omega arith in
    ap (first_from x names k) none ∙ ap (variant x) e

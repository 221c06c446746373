-- The order of the trees of two lists of terms.
use Rattle.std.proofs.Common.{◌≡◌, ℕ, zero, suc, ◌≤◌, min, List, [], ◌∷◌, length, drop, refl, arith, nat_cmp}
use Rattle.std.proofs.lemmas.Bool.Decides.{nat_tests}
use Rattle.rdx_term.specs.Order.{trees_cmp}
use Rattle.rdx_term.specs.declared.term.Term.{Term}
use Rattle.rdx_term.specs.View.{trees_of}

-- where one list of terms has ended, the lengths decide
pub trees_cmp-ended : (xs ys : List Term) (n : ℕ) → n ≤ min (length xs) (length ys) → min (length xs) (length ys) ≤ n
    → trees_cmp (trees_of (drop n xs)) (trees_of (drop n ys)) ≡ nat_cmp (length xs) (length ys)
trees_cmp-ended [] [] zero h k = refl
trees_cmp-ended [] (y ∷ ys) zero h k = grind (arith, nat_tests)
trees_cmp-ended (x ∷ xs) [] zero h k = grind (arith, nat_tests)
trees_cmp-ended (x ∷ xs) (y ∷ ys) zero h k = absurd (omega arith)
trees_cmp-ended [] ys (suc n) h k = absurd (omega arith)
trees_cmp-ended (x ∷ xs) [] (suc n) h k = absurd (omega arith)
trees_cmp-ended (x ∷ xs) (y ∷ ys) (suc n) h k =
    let e : trees_cmp (trees_of (drop n xs)) (trees_of (drop n ys)) ≡ nat_cmp (length xs) (length ys) = trees_cmp-ended xs ys n (omega arith) (omega arith) in
    grind (arith, nat_tests)

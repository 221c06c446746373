-- Where one list of pairs, of values, of terms or of sets has ended, the lengths decide.
use Rattle.std.proofs.Common.{◌≡◌, ℕ, zero, suc, ◌≤◌, min, List, [], ◌∷◌, length, drop, map, refl, arith, nat_cmp}
use Rattle.std.proofs.lemmas.Bool.Decides.{nat_tests}
use Rattle.std.specs.Prelude.{Vec}
use Rattle.std.specs.Cmp.Lexicographic.{slice_cmp}
use Rattle.std.specs.declared.alloc.Global.{Global}
use Rattle.rdx_term.specs.Order.{tree_cmp}
use Rattle.rdx_term.specs.View.{tree_of}
use Rattle.rdx_term.specs.declared.term.Term.{Term}
use Rattle.rdx_lang.specs.BindingView.{value_of, pairs_of, mismatches_of}
use Rattle.rdx_lang.specs.Bindings.{values}
use Rattle.rdx_lang.specs.Order.{values_cmp, pairs_cmp, mismatches_cmp}
use Rattle.rdx_lang.specs.declared.binding.Value.{Value}

-- behind the end of a list the lengths decide
pub pairs_cmp-ended : (xs ys : List (List ℕ × Value)) (n : ℕ) → n ≤ min (length xs) (length ys) → min (length xs) (length ys) ≤ n
    → pairs_cmp (pairs_of (drop n xs)) (pairs_of (drop n ys)) ≡ nat_cmp (length xs) (length ys)
pairs_cmp-ended [] [] zero h k = refl
pairs_cmp-ended [] (y ∷ ys) zero h k = grind (arith, nat_tests)
pairs_cmp-ended (x ∷ xs) [] zero h k = grind (arith, nat_tests)
pairs_cmp-ended (x ∷ xs) (y ∷ ys) zero h k = absurd (omega arith)
pairs_cmp-ended [] ys (suc n) h k = absurd (omega arith)
pairs_cmp-ended (x ∷ xs) [] (suc n) h k = absurd (omega arith)
pairs_cmp-ended (x ∷ xs) (y ∷ ys) (suc n) h k =
    let e : pairs_cmp (pairs_of (drop n xs)) (pairs_of (drop n ys)) ≡ nat_cmp (length xs) (length ys) = pairs_cmp-ended xs ys n (omega arith) (omega arith) in
    grind (arith, nat_tests)

-- so they do behind the end of a sequence of values
pub values_cmp-ended : (xs ys : List Value) (n : ℕ) → n ≤ min (length xs) (length ys) → min (length xs) (length ys) ≤ n
    → values_cmp (values (map value_of (drop n xs))) (values (map value_of (drop n ys))) ≡ nat_cmp (length xs) (length ys)
values_cmp-ended [] [] zero h k = refl
values_cmp-ended [] (y ∷ ys) zero h k = grind (arith, nat_tests)
values_cmp-ended (x ∷ xs) [] zero h k = grind (arith, nat_tests)
values_cmp-ended (x ∷ xs) (y ∷ ys) zero h k = absurd (omega arith)
values_cmp-ended [] ys (suc n) h k = absurd (omega arith)
values_cmp-ended (x ∷ xs) [] (suc n) h k = absurd (omega arith)
values_cmp-ended (x ∷ xs) (y ∷ ys) (suc n) h k =
    let e : values_cmp (values (map value_of (drop n xs))) (values (map value_of (drop n ys))) ≡ nat_cmp (length xs) (length ys) =
    values_cmp-ended xs ys n (omega arith) (omega arith) in
    grind (arith, nat_tests)

-- and behind the end of a list of terms
pub terms_cmp-ended : (xs ys : List Term) (n : ℕ) → n ≤ min (length xs) (length ys) → min (length xs) (length ys) ≤ n
    → slice_cmp tree_cmp (map tree_of (drop n xs)) (map tree_of (drop n ys)) ≡ nat_cmp (length xs) (length ys)
terms_cmp-ended [] [] zero h k = refl
terms_cmp-ended [] (y ∷ ys) zero h k = grind (arith, nat_tests)
terms_cmp-ended (x ∷ xs) [] zero h k = grind (arith, nat_tests)
terms_cmp-ended (x ∷ xs) (y ∷ ys) zero h k = absurd (omega arith)
terms_cmp-ended [] ys (suc n) h k = absurd (omega arith)
terms_cmp-ended (x ∷ xs) [] (suc n) h k = absurd (omega arith)
terms_cmp-ended (x ∷ xs) (y ∷ ys) (suc n) h k =
    let e : slice_cmp tree_cmp (map tree_of (drop n xs)) (map tree_of (drop n ys)) ≡ nat_cmp (length xs) (length ys) =
    terms_cmp-ended xs ys n (omega arith) (omega arith) in
    grind (arith, nat_tests)

-- and behind that of a list of mismatch names with their sets
pub mismatches_cmp-ended : (xs ys : List (List ℕ × Vec Term Global)) (n : ℕ) → n ≤ min (length xs) (length ys) → min (length xs) (length ys) ≤ n
    → mismatches_cmp (mismatches_of (drop n xs)) (mismatches_of (drop n ys)) ≡ nat_cmp (length xs) (length ys)
mismatches_cmp-ended [] [] zero h k = refl
mismatches_cmp-ended [] (y ∷ ys) zero h k = grind (arith, nat_tests)
mismatches_cmp-ended (x ∷ xs) [] zero h k = grind (arith, nat_tests)
mismatches_cmp-ended (x ∷ xs) (y ∷ ys) zero h k = absurd (omega arith)
mismatches_cmp-ended [] ys (suc n) h k = absurd (omega arith)
mismatches_cmp-ended (x ∷ xs) [] (suc n) h k = absurd (omega arith)
mismatches_cmp-ended (x ∷ xs) (y ∷ ys) (suc n) h k =
    let e : mismatches_cmp (mismatches_of (drop n xs)) (mismatches_of (drop n ys)) ≡ nat_cmp (length xs) (length ys) =
    mismatches_cmp-ended xs ys n (omega arith) (omega arith) in
    grind (arith, nat_tests)

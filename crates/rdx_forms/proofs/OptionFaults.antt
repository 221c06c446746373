-- What is at fault among options, pair by pair.
use Rattle.std.proofs.Common.{◌≡◌, ℕ, Bool, true, false, ◌-◌, ◌≤◌, List, [], ◌∷◌, ◌++◌, length, take, drop, get_or, Option, Some, None, refl, sym, ap, subst, ◌∙◌, arith, if◌then◌else◌}
use Rattle.rdx_patterns.proofs.Booleans.{and_true}
use Rattle.std.proofs.lemmas.Bool.Decides.{nat_tests}
use Rattle.std.specs.Prelude.{int_le, pos, negsuc, not, nat_lt, option_map}
use Rattle.rdx_sexp.specs.Sexp.{integer, truth, text, symbol, keyword, Sexp, leaf, list}
use Rattle.rdx_patterns.proofs.Firsts.{none_both}
use Rattle.rdx_templates.specs.Earliest.{earliest, lesser, start}
use Rattle.rdx_templates.proofs.EarliestPlaces.{earliest-more, earliest-none}
use Rattle.rdx_forms.specs.Options.{OptionKind, is_keyword_of, is_within, kind_of_keyword, number, option_faults, option_number, options_behind, pair_fault, value_fault}

-- all of a list
take-all : {A : Type 0} (xs : List A) → take (length xs) xs ≡ xs
take-all [] = refl
take-all (x ∷ xs) = ap (λ ys. x ∷ ys) (take-all xs)

-- a list begins with the first two of its members
pub pair-first : {A : Type 0} (xs : List A) (k v : A) → 2 ≤ length xs → k ≡ get_or xs 0 k → v ≡ get_or xs 1 v
    → xs ≡ k ∷ v ∷ take (length xs - 2) (drop 2 xs)
pair-first [] k v h e f = absurd (omega arith)
pair-first (x ∷ []) k v h e f = absurd (omega arith)
pair-first (x ∷ y ∷ xs) k v h e f =
    let n : length xs ≡ length (x ∷ y ∷ xs) - 2 = omega arith in
    λ i. sym e i ∷ sym f i ∷ (sym (take-all xs) ∙ ap (λ m. take m xs) n) i

-- the faults behind a pair, with the earliest before them and that of the pair
pub faults-behind : (os qs : List OptionKind) (k v : Sexp) (rest more : List Sexp) (o p q w : Option Sexp) → rest ≡ k ∷ v ∷ more
    → p ≡ earliest start (pair_fault (kind_of_keyword os k) k v) → q ≡ lesser start o p → qs ≡ options_behind k os
    → lesser start o (earliest start (option_faults os rest)) ≡ w → lesser start q (earliest start (option_faults qs more)) ≡ w
faults-behind os qs k v rest more o p q w r a b c d =
    (λ i. lesser start (b i) (earliest start (option_faults (c i) more)))
    ∙ earliest-more start o p (pair_fault (kind_of_keyword os k) k v) (option_faults (options_behind k os) more) a
    ∙ ap (λ (xs : List Sexp). lesser start o (earliest start (option_faults os xs))) (sym r)
    ∙ d

-- ---- numbers

-- where there is no earliest datum there is none
pub nothing-at-fault : (ds : List Sexp) → None ≡ earliest start ds → ds ≡ []
nothing-at-fault ds e = earliest-none start (λ d. d) ds (ap (option_map (λ d. d)) (sym e))

-- a number within the limits of an option is no greater than the greatest
within-most : (o : OptionKind) (m : ℕ) → is_within o (pos m) ≡ true → m ≤ o.most
within-most o m e = let l = (and_true (int_le (pos o.least) (pos m)) (int_le (pos m) (pos o.most)) e).1 in grind (arith, nat_tests)

-- so it is with one that a test lets pass
tested-most : (b : Bool) (d : Sexp) (m n k : ℕ) → (b ≡ true → m ≤ k) → (c : Bool) → (if not b then d ∷ [] else []) ≡ [] → (if c then Some m else None) ≡ Some n → n ≤ k
tested-most true d m n k h true e f = let g : m ≡ n = cc in subst (λ x. x ≤ k) g (h refl)
tested-most true d m n k h false e f = absurd cc
tested-most false d m n k h c e f = absurd cc

-- a value that is not at fault
value-most : (o : OptionKind) (k v : Sexp) (n : ℕ) → value_fault o k v ≡ [] → number v ≡ Some n → n ≤ o.most
value-most o k (leaf (integer (pos m)) s) n e f = tested-most (is_within o (pos m)) (leaf (integer (pos m)) s) m n o.most (within-most o m) (nat_lt m 18_446_744_073_709_551_616) e f
value-most o k (leaf (integer (negsuc m)) s) n e f = absurd cc
value-most o k (leaf (truth b) s) n e f = absurd cc
value-most o k (leaf (text x) s) n e f = absurd cc
value-most o k (leaf (symbol x) s) n e f = absurd cc
value-most o k (leaf (keyword x) s) n e f = absurd cc
value-most o k (list ds s) n e f = absurd cc

-- the number of an option among others, where nothing is at fault
pub number-most : (o : OptionKind) (os : List OptionKind) (ds : List Sexp) (n : ℕ) → option_faults (o ∷ os) ds ≡ [] → option_number o ds ≡ Some n → n ≤ o.most
number-most o os [] n e f = absurd cc
number-most o os (k ∷ []) n e f = absurd cc
number-most o os (k ∷ v ∷ ds) n e f = by_test (is_keyword_of o.name k) (number-most o (options_behind k os) ds n) e f
  where
    by_test : (b : Bool) → (option_faults (o ∷ options_behind k os) ds ≡ [] → option_number o ds ≡ Some n → n ≤ o.most)
        → pair_fault (if b then Some o else kind_of_keyword os k) k v ++ option_faults (if b then os else o ∷ options_behind k os) ds ≡ []
        → (if b then number v else option_number o ds) ≡ Some n → n ≤ o.most
    by_test true g e f = value-most o k v n (none_both (value_fault o k v) (option_faults os ds) e).0 f
    by_test false g e f = g (none_both (pair_fault (kind_of_keyword os k) k v) (option_faults (o ∷ options_behind k os) ds) e).1 f

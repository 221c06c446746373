-- The numbers of options and sizes that no check refuses are within their limits.
use Rattle.std.proofs.Common.{◌≡◌, ◌++◌, ℕ, Bool, true, false, not, List, [], ◌∷◌, Option, Some, None, pos, negsuc, refl, arith, if◌then◌else◌}
use Rattle.std.proofs.lemmas.Bool.{lt-ltb, leb-true}
use Rattle.std.specs.Prelude.{◌&&◌, nat_lt, nat_le}
use Rattle.rdx_sexp.specs.Sexp.{Sexp, leaf, list, integer, truth, text, symbol, keyword}
use Rattle.rdx_patterns.specs.PatternChecks.{when}
use Rattle.rdx_patterns.proofs.Booleans.{and_true, and_both}
use Rattle.rdx_patterns.proofs.Firsts.{none_both}
use Rattle.rdx_forms.specs.GenerateForms.{size_faults, check_options, usual_attempts, usual_seed}
use Rattle.rdx_forms.specs.Options.{OptionKind, seed_option, attempts_option, is_keyword_of, is_within, value_fault, kind_of_keyword, pair_fault, options_behind, option_faults, number, option_number, number_or}

-- a number that is there is within these limits
abbrev pub Within : OptionKind → Option ℕ → Type 0
Within o None = Unit {0}
Within o (Some n) = is_within o (pos n) ≡ true

-- so it is, where the datum is no fault
within-when : (o : OptionKind) (n : ℕ) (d : Sexp) (b : Bool) → when (not (is_within o (pos n))) d ≡ [] → Within o (if b then Some n else None)
within-when o n d false e = tt
within-when o n d true e = by_test (is_within o (pos n)) e
  where
    by_test : (c : Bool) → when (not c) d ≡ [] → c ≡ true
    by_test true f = refl
    by_test false f = absurd cc

value-within : (o : OptionKind) (k v : Sexp) → value_fault o k v ≡ [] → Within o (number v)
value-within o k (leaf (integer (pos n)) s) e = within-when o n (leaf (integer (pos n)) s) (nat_lt n 18_446_744_073_709_551_616) e
value-within o k (leaf (integer (negsuc n)) s) e = tt
value-within o k (leaf (truth b) s) e = tt
value-within o k (leaf (text t) s) e = tt
value-within o k (leaf (symbol x) s) e = tt
value-within o k (leaf (keyword x) s) e = tt
value-within o k (list ds s) e = tt

-- the number of an option before others is within its limits, where none is at fault
option-within : (o : OptionKind) (os : List OptionKind) (ds : List Sexp) → option_faults (o ∷ os) ds ≡ [] → Within o (option_number o ds)
option-within o os [] e = tt
option-within o os (k ∷ []) e = tt
option-within o os (k ∷ v ∷ ds) e = by_test (is_keyword_of o.name k) (option-within o (options_behind k os) ds) e
  where
    by_test : (b : Bool) → (option_faults (o ∷ options_behind k os) ds ≡ [] → Within o (option_number o ds))
        → pair_fault (if b then Some o else kind_of_keyword os k) k v ++ option_faults (if b then os else o ∷ options_behind k os) ds ≡ []
        → Within o (if b then number v else option_number o ds)
    by_test true f g = value-within o k v (none_both (value_fault o k v) (option_faults os ds) g).0
    by_test false f g = f (none_both (pair_fault (kind_of_keyword os k) k v) (option_faults (o ∷ options_behind k os) ds) g).1

-- ---- those that there are

-- how often to try
pub attempts-within : (ds : List Sexp) → option_faults check_options ds ≡ []
    → (nat_lt 0 (number_or usual_attempts (option_number attempts_option ds)) && nat_lt (number_or usual_attempts (option_number attempts_option ds)) 100_001) ≡ true
attempts-within ds e = by_number (option_number attempts_option ds) (option-within attempts_option (seed_option ∷ []) ds e)
  where
    by_number : (o : Option ℕ) → Within attempts_option o → (nat_lt 0 (number_or usual_attempts o) && nat_lt (number_or usual_attempts o) 100_001) ≡ true
    by_number None h = refl
    by_number (Some n) h =
        let z = and_true (nat_le 1 n) (nat_le n 100_000) h in
        let l = leb-true 1 n z.0 in
        let m = leb-true n 100_000 z.1 in
        and_both (nat_lt 0 n) (nat_lt n 100_001) (lt-ltb 0 n (omega (arith, l))) (lt-ltb n 100_001 (omega (arith, m)))

-- the words from which terms are made
number-small : (d : Sexp) (m : ℕ) → nat_lt m 18_446_744_073_709_551_616 ≡ true → nat_lt (number_or m (number d)) 18_446_744_073_709_551_616 ≡ true
number-small (leaf (integer (pos n)) s) m e = by_test (nat_lt n 18_446_744_073_709_551_616) refl
  where
    by_test : (b : Bool) → nat_lt n 18_446_744_073_709_551_616 ≡ b → nat_lt (number_or m (if b then Some n else None)) 18_446_744_073_709_551_616 ≡ true
    by_test true f = f
    by_test false f = e
number-small (leaf (integer (negsuc n)) s) m e = e
number-small (leaf (truth b) s) m e = e
number-small (leaf (text t) s) m e = e
number-small (leaf (symbol x) s) m e = e
number-small (leaf (keyword x) s) m e = e
number-small (list ds s) m e = e

option-small : (o : OptionKind) (ds : List Sexp) (m : ℕ) → nat_lt m 18_446_744_073_709_551_616 ≡ true
    → nat_lt (number_or m (option_number o ds)) 18_446_744_073_709_551_616 ≡ true
option-small o [] m e = e
option-small o (k ∷ []) m e = e
option-small o (k ∷ v ∷ ds) m e = by_test (is_keyword_of o.name k) (option-small o ds m e)
  where
    by_test : (b : Bool) → nat_lt (number_or m (option_number o ds)) 18_446_744_073_709_551_616 ≡ true
        → nat_lt (number_or m (if b then number v else option_number o ds)) 18_446_744_073_709_551_616 ≡ true
    by_test true more = number-small v m e
    by_test false more = more

pub seed-small : (ds : List Sexp) → nat_lt (number_or usual_seed (option_number seed_option ds)) 18_446_744_073_709_551_616 ≡ true
seed-small ds = option-small seed_option ds usual_seed refl

-- a size
size-by : (n : ℕ) (b : Bool) → Within (record { name = []; least = 0; most = 30 }) (if b then Some n else None)
    → nat_lt (number_or 0 (if b then Some n else None)) 31 ≡ true
size-by n true h = let m = leb-true n 30 (and_true (nat_le 0 n) (nat_le n 30) h).1 in lt-ltb n 31 (omega (arith, m))
size-by n false h = refl

pub size-small : (d : Sexp) → size_faults d ≡ [] → nat_lt (number_or 0 (number d)) 31 ≡ true
size-small (leaf (integer (pos n)) s) e =
    let b = nat_lt n 18_446_744_073_709_551_616 in
    size-by n b (within-when (record { name = []; least = 0; most = 30 }) n (leaf (integer (pos n)) s) b e)
size-small (leaf (integer (negsuc n)) s) e = refl
size-small (leaf (truth b) s) e = refl
size-small (leaf (text t) s) e = refl
size-small (leaf (symbol x) s) e = refl
size-small (leaf (keyword x) s) e = refl
size-small (list ds s) e = refl

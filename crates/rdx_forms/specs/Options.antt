-- The options behind a query: keywords, each with a number behind it, in any order, each once at most.
use Rattle.std.specs.Prelude.{ℕ, nat_lt, ℤ, int_le, pos, Bool, true, false, not, ◌&&◌, List, [], ◌∷◌, ◌++◌, Option, Some, None, bytes_eq, codes, if◌then◌else◌}
use Rattle.rdx_sexp.specs.Sexp.{integer, keyword, Sexp, leaf}
use Rattle.rdx_patterns.specs.PatternChecks.{when}

-- an option: what its keyword is called, and from which number to which it goes
pub record OptionKind : Type 0 where
  pub name : List ℕ
  pub least : ℕ
  pub most : ℕ

-- `#:seed`, from which words are drawn
abbrev pub seed_option : OptionKind
seed_option = record { name = codes "seed"; least = 0; most = 18_446_744_073_709_551_615 }

-- `#:attempts`, how often to try
abbrev pub attempts_option : OptionKind
attempts_option = record { name = codes "attempts"; least = 1; most = 100_000 }

-- the datum is a keyword
abbrev pub is_keyword : Sexp → Bool
is_keyword (leaf (keyword x) s) = true
is_keyword d = false

-- the datum is the keyword of this name
abbrev pub is_keyword_of : List ℕ → Sexp → Bool
is_keyword_of x (leaf (keyword y) s) = bytes_eq y x
is_keyword_of x d = false

-- they stand in pairs: each first of two is a keyword
abbrev pub are_pairs : List Sexp → Bool
are_pairs [] = true
are_pairs (k ∷ []) = is_keyword k
are_pairs (k ∷ v ∷ ds) = is_keyword k && are_pairs ds

-- ---- faults

-- the number is one for the option
abbrev pub is_within : OptionKind → ℤ → Bool
is_within o n = int_le (pos o.least) n && int_le n (pos o.most)

-- what is at fault in the option with this value behind its keyword k: the keyword, where the value is no number; or the value, where it is out of limits
abbrev pub value_fault : OptionKind → Sexp → Sexp → List Sexp
value_fault o k (leaf (integer n) s) = when (not (is_within o n)) (leaf (integer n) s)
value_fault o k v = k ∷ []

-- the option of a keyword among these, if it is one of theirs
abbrev pub kind_of_keyword : List OptionKind → Sexp → Option OptionKind
kind_of_keyword [] k = None
kind_of_keyword (o ∷ os) k = if is_keyword_of o.name k then Some o else kind_of_keyword os k

-- what is at fault in a pair: the keyword, where it is that of no option, and else what is in its value
abbrev pub pair_fault : Option OptionKind → Sexp → Sexp → List Sexp
pair_fault None k v = k ∷ []
pair_fault (Some o) k v = value_fault o k v

-- the options that may come behind this keyword
abbrev pub options_behind : Sexp → List OptionKind → List OptionKind
options_behind k [] = []
options_behind k (o ∷ os) = if is_keyword_of o.name k then os else o ∷ options_behind k os

-- all data at fault among options, in their order; a keyword without a value is one
abbrev pub option_faults : List OptionKind → List Sexp → List Sexp
option_faults os [] = []
option_faults os (k ∷ []) = k ∷ []
option_faults os (k ∷ v ∷ ds) = pair_fault (kind_of_keyword os k) k v ++ option_faults (options_behind k os) ds

-- ---- values

-- the number that a datum is, from 0 to 2^64 - 1
abbrev pub number : Sexp → Option ℕ
number (leaf (integer (pos n)) s) = if nat_lt n 18_446_744_073_709_551_616 then Some n else None
number d = None

-- the number of an option, where it stands there
abbrev pub option_number : OptionKind → List Sexp → Option ℕ
option_number o [] = None
option_number o (k ∷ []) = None
option_number o (k ∷ v ∷ ds) = if is_keyword_of o.name k then number v else option_number o ds

-- a number, or this one, where there is none
abbrev pub number_or : ℕ → Option ℕ → ℕ
number_or m None = m
number_or m (Some n) = n

-- Names that are made up: the first of x, x1, x2 and so on that is not taken.
use Rattle.std.specs.Prelude.{ℕ, zero, suc, List, [], ◌++◌, codes, length, bytes_eq, if◌then◌else◌}
use Rattle.std.specs.Fmt.{decimal}
use Rattle.std.specs.List.{list_any}
use Rattle.rdx_term.specs.Spelling.{is_name}

-- what stands between x and a number: nothing, or `!` where x with a 1 behind it is no name but too much like a number, as `+1` is
abbrev pub before_number : List ℕ → List ℕ
before_number x = if is_name (x ++ codes "1") then [] else codes "!"

-- x, x1, x2 and so on; or x, x!1, x!2 and so on
abbrev pub variant : List ℕ → ℕ → List ℕ
variant x zero = x
variant x (suc n) = x ++ before_number x ++ decimal (suc n)

-- the first variant from the k-th on that is none of these names, where the n variants from there on are looked at
abbrev pub first_from : List ℕ → List (List ℕ) → ℕ → ℕ → List ℕ
first_from x names k zero = variant x k
first_from x names k (suc n) = if list_any (bytes_eq (variant x k)) names then first_from x names (suc k) n else variant x k

-- the first variant that is none of these names: as many as there are need be looked at before it
abbrev pub first_variant : List ℕ → List (List ℕ) → List ℕ
first_variant x names = first_from x names 0 (length names)

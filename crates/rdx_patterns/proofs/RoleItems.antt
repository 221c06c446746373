-- How many repetitions stand around an item, and the name that one is.
use Rattle.std.proofs.Common.{◌≡◌, ℕ, ◌+◌, ◌≤◌, Bool, true, false, List, [], ◌∷◌, refl, if◌then◌else◌, arith}
use Rattle.rdx_sexp.specs.Sexp.{Sexp}
use Rattle.rdx_term.specs.Spelling.{is_name}
use Rattle.rdx_patterns.specs.Occurrences.{deeper}
use Rattle.rdx_patterns.specs.Parts.{text_of}
use Rattle.rdx_patterns.specs.Reading.{name_in}

-- one repetition more at most
pub deeper-most : (b : Bool) (n : ℕ) → deeper b n ≤ n + 1
deeper-most true n = omega arith
deeper-most false n = omega arith

-- the name that a symbol is
pub named-once : (d : Sexp) → is_name (text_of d) ≡ true → name_in d ≡ text_of d ∷ []
named-once d e = by_test (is_name (text_of d)) e
  where
    by_test : (b : Bool) → b ≡ true → (let xs : List (List ℕ) = if b then text_of d ∷ [] else [] in xs) ≡ text_of d ∷ []
    by_test true f = refl
    by_test false f = absurd cc

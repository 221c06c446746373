-- What a check for repeated nonterminals has seen.
use Rattle.std.specs.Prelude.{◌≡◌, ℕ, List, map, bytes_eq}
use Rattle.std.specs.BTreeSet.{BTreeSet}
use Rattle.std.specs.Borrow.{Bor}
use Rattle.std.specs.List.{list_any}

-- the texts in a set
abbrev pub texts_in : BTreeSet (Bor (List ℕ)) → List (List ℕ)
texts_in s = map (λ k. k.now) s.keys

-- the same texts are in both
abbrev pub HaveSame : List (List ℕ) → List (List ℕ) → Type 0
HaveSame xs ys = (x : List ℕ) → list_any (bytes_eq x) xs ≡ list_any (bytes_eq x) ys

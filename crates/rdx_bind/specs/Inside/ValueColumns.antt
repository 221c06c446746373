-- What several bindings of the same names have at each place.
use Rattle.std.specs.Prelude.{ℕ, List, [], ◌∷◌, ◌+◌, map, get_or}
use Rattle.rdx_lang.specs.Bindings.{Value, many, len, values, Pair, Binding}

-- a pair for the places where there is none
abbrev pub no_pair : Pair
no_pair = ([], len 0)

-- the pair at the n-th place
abbrev pub pair_at : ℕ → List Pair → Pair
pair_at n ps = get_or ps n no_pair

-- the values at the n-th place, binding by binding
abbrev pub column : ℕ → List Binding → List Value
column n bs = map (λ b. (pair_at n b.pairs).1) bs

-- names from the n-th place on, each with the sequence of the values at its place
abbrev pub columns_from : ℕ → List (List ℕ) → List Binding → List Pair
columns_from n [] bs = []
columns_from n (x ∷ xs) bs = (x, many (values (column n bs))) ∷ columns_from (n + 1) xs bs

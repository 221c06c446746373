-- What a binding says of some names.
use Rattle.std.specs.Prelude.{ℕ, zero, suc, List, [], ◌∷◌, ◌++◌, Option, Some, None}
use Rattle.rdx_lang.specs.Bindings.{Value, one, many, len, Values, none, more, Pair, Binding, of_pairs, value_at}

-- the pair of a name and its value, where it has one
abbrev pub pair_where : List ℕ → Option Value → List Pair
pair_where x None = []
pair_where x (Some v) = (x, v) ∷ []

-- the pairs of these names, in their order
abbrev pub picked_pairs : Binding → List (List ℕ) → List Pair
picked_pairs b [] = []
picked_pairs b (x ∷ xs) = pair_where x (value_at b x) ++ picked_pairs b xs

-- the binding of these names alone
abbrev pub picked : Binding → List (List ℕ) → Binding
picked b xs = of_pairs (picked_pairs b xs)

-- the value at a place
abbrev pub nth_value : Values → ℕ → Option Value
nth_value none i = None
nth_value (more v vs) zero = Some v
nth_value (more v vs) (suc i) = nth_value vs i

-- what a value is in a turn
abbrev pub turn_value : Option Value → ℕ → Option Value
turn_value None i = None
turn_value (Some (one t)) i = None
turn_value (Some (many vs)) i = nth_value vs i
turn_value (Some (len n)) i = None

-- the pairs of these names in a turn
abbrev pub turn_pairs : Binding → ℕ → List (List ℕ) → List Pair
turn_pairs b i [] = []
turn_pairs b i (x ∷ xs) = pair_where x (turn_value (value_at b x) i) ++ turn_pairs b i xs

-- the binding of these names in a turn
abbrev pub in_turn : Binding → ℕ → List (List ℕ) → Binding
in_turn b i xs = of_pairs (turn_pairs b i xs)

-- how many values there are
abbrev pub values_count : Values → ℕ
values_count none = zero
values_count (more v vs) = suc (values_count vs)

-- how many turns a value says there are
abbrev pub turns_in : Option Value → Option ℕ
turns_in None = None
turns_in (Some (one t)) = None
turns_in (Some (many vs)) = Some (values_count vs)
turns_in (Some (len n)) = Some n

-- how many turns a repetition with these names and this length name has, where one of its names says so
abbrev pub turns_of : Binding → List (List ℕ) → Option (List ℕ) → Option ℕ
turns_of b (x ∷ xs) n = turns_in (value_at b x)
turns_of b [] (Some y) = turns_in (value_at b y)
turns_of b [] None = None

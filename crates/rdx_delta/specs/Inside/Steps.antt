-- Arguments that are one integer or two, and what closures compute that are handed on. Private clauses alone cite it.
use Rattle.std.specs.Prelude.{◌≡◌, ℤ, Bool, FitsSigned, Option, Some, None, List, [], ◌∷◌}
use Rattle.std.specs.Int.{w128}
use Rattle.std.specs.Option.{SomeIff}
use Rattle.rdx_term.specs.Tree.{Tree, integer}

-- the one tree, where it is an integer
abbrev pub one_integer : List Tree → Option ℤ
one_integer (integer n ∷ []) = Some n
one_integer ts = None

-- the two trees, where they are integers
abbrev pub two_integers : List Tree → Option (ℤ × ℤ)
two_integers (integer n ∷ integer m ∷ []) = Some (n, m)
two_integers ts = None

-- a step with these results gives what f gives, where that is in range
abbrev pub Computes : (ℤ → ℤ → Option ℤ → Type 0) → (ℤ → ℤ → ℤ) → Type 0
Computes gives f = (a b : ℤ) (r : Option ℤ) → FitsSigned w128 a → FitsSigned w128 b → gives a b r → SomeIff r (FitsSigned w128 (f a b)) (f a b)

-- a test with these results is that of the definition
abbrev pub Tests : (ℤ → ℤ → Bool → Type 0) → (ℤ → ℤ → Bool) → Type 0
Tests gives test = (a b : ℤ) (r : Bool) → FitsSigned w128 a → FitsSigned w128 b → gives a b r → r ≡ test a b

-- What each host operation answers to each list of trees: as Racket does (the Racket Reference, "Generic Numerics"; "Number Types",
-- "Equality" and "Booleans" for `zero?`, `equal?` and `not`), but on integers of 128 bits alone, and `equal?` forgets marks.
--
-- A list of another length than the operation takes, or with something other than an integer where integers are wanted, is
-- `host_domain`. Otherwise a divisor of 0 is `divide_by_zero`. Otherwise a partial result, from left to right, that is none of 128 bits
-- is `overflow`. Otherwise the answer is a value.
use Rattle.std.specs.Prelude.{◌^◌, nat_lt, ℤ, pos, negsuc, ◌+ℤ◌, ◌-ℤ◌, ◌*ℤ◌, neg_ℤ, int_div, int_rem, int_lt, int_le, Bool, true, false, ◌&&◌, if◌then◌else◌, Option, Some, None, List, [], ◌∷◌}
use Rattle.std.specs.Ordering.{int_eq, is_eq}
use Rattle.rdx_term.specs.Tree.{Tree, integer, truth}
use Rattle.rdx_term.specs.Bare.{bare}
use Rattle.rdx_term.specs.Order.{tree_cmp}
use Rattle.rdx_lang.specs.declared.operation.HostOp.{HostOp}
use Rattle.rdx_lang.specs.declared.operation.HostOp.TheVariants.{Add, Sub, Mul, Quotient, Remainder, Add1, Sub1, Eq, Lt, Le, Gt, Ge, IsZero, Equal, Not}
use Rattle.rdx_delta.specs.Reply.{Reply, value, host_domain, overflow, divide_by_zero}

-- the integers of 128 bits: from -2^127 up to 2^127 - 1 (`negsuc n` is the integer -n - 1)
abbrev pub fits : ℤ → Bool
fits (pos n) = nat_lt n (2 ^ 127)
fits (negsuc n) = nat_lt n (2 ^ 127)

-- the integer, where it is one of 128 bits
abbrev pub in_range : ℤ → Reply
in_range n = if fits n then value (integer n) else overflow

-- what f makes of a start and each integer in turn, where every partial result is one of 128 bits
abbrev pub folded : (ℤ → ℤ → ℤ) → ℤ → List ℤ → Reply
folded f start [] = value (integer start)
folded f start (n ∷ ns) = if fits (f start n) then folded f (f start n) ns else overflow

-- the negative of one integer; the first less all others
abbrev pub difference : List ℤ → Reply
difference [] = host_domain
difference (n ∷ []) = in_range (neg_ℤ n)
difference (n ∷ m ∷ ns) = folded ◌-ℤ◌ n (m ∷ ns)

-- the quotient of two integers, cut toward zero
abbrev pub quotient : List ℤ → Reply
quotient (n ∷ d ∷ []) = if int_eq d (pos 0) then divide_by_zero else in_range (int_div n d)
quotient ns = host_domain

-- the remainder of two integers, with the sign of the first, or 0
abbrev pub remainder : List ℤ → Reply
remainder (n ∷ d ∷ []) = if int_eq d (pos 0) then divide_by_zero else value (integer (int_rem n d))
remainder ns = host_domain

-- f of one integer
abbrev pub stepped : (ℤ → ℤ) → List ℤ → Reply
stepped f (n ∷ []) = in_range (f n)
stepped f ns = host_domain

-- whether each integer but the last stands so to the next
abbrev pub neighbours : (ℤ → ℤ → Bool) → List ℤ → Bool
neighbours holds [] = true
neighbours holds (n ∷ []) = true
neighbours holds (n ∷ m ∷ ns) = holds n m && neighbours holds (m ∷ ns)

-- the same as an answer, for one integer or more
abbrev pub compared : (ℤ → ℤ → Bool) → List ℤ → Reply
compared holds [] = host_domain
compared holds (n ∷ ns) = value (truth (neighbours holds (n ∷ ns)))

-- whether the one integer is 0
abbrev pub zero_test : List ℤ → Reply
zero_test (n ∷ []) = value (truth (int_eq n (pos 0)))
zero_test ns = host_domain

-- whether two trees are equal but for their marks
abbrev pub equality : List Tree → Reply
equality (t ∷ u ∷ []) = value (truth (is_eq (tree_cmp (bare t) (bare u))))
equality ts = host_domain

-- true for false, and false for any other tree
abbrev pub negation : List Tree → Reply
negation (truth false ∷ []) = value (truth true)
negation (t ∷ []) = value (truth false)
negation ts = host_domain

-- the number in front of the numbers, where these are there
abbrev pub in_front : ℤ → Option (List ℤ) → Option (List ℤ)
in_front n None = None
in_front n (Some ns) = Some (n ∷ ns)

-- the integers that the trees are, where each of them is one
abbrev pub integers : List Tree → Option (List ℤ)
integers [] = Some []
integers (integer n ∷ ts) = in_front n (integers ts)
integers (t ∷ ts) = None

-- what f answers to the integers, where they are there
abbrev pub of_integers : (List ℤ → Reply) → Option (List ℤ) → Reply
of_integers f None = host_domain
of_integers f (Some ns) = f ns

-- the table: what the operation answers to the trees
abbrev pub delta : HostOp → List Tree → Reply
delta Add ts = of_integers (folded ◌+ℤ◌ (pos 0)) (integers ts)
delta Sub ts = of_integers difference (integers ts)
delta Mul ts = of_integers (folded ◌*ℤ◌ (pos 1)) (integers ts)
delta Quotient ts = of_integers quotient (integers ts)
delta Remainder ts = of_integers remainder (integers ts)
delta Add1 ts = of_integers (stepped (λ n. n +ℤ pos 1)) (integers ts)
delta Sub1 ts = of_integers (stepped (λ n. n -ℤ pos 1)) (integers ts)
delta Eq ts = of_integers (compared int_eq) (integers ts)
delta Lt ts = of_integers (compared int_lt) (integers ts)
delta Le ts = of_integers (compared int_le) (integers ts)
delta Gt ts = of_integers (compared (λ n m. int_lt m n)) (integers ts)
delta Ge ts = of_integers (compared (λ n m. int_le m n)) (integers ts)
delta IsZero ts = of_integers zero_test (integers ts)
delta Equal ts = equality ts
delta Not ts = negation ts

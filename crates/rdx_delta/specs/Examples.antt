-- Worked examples: what the operations reply to a few lists of trees, and which entries make no table. They are proved, as the clauses of
-- `laws::worked_examples`.
use Rattle.std.specs.Prelude.{◌≡◌, ◌^◌, ◌-◌, pos, negsuc, neg_ℤ, true, List, [], ◌∷◌, reverse, Some, None}
use Rattle.rdx_term.specs.Tree.{Tree, integer, truth, text}
use Rattle.rdx_lang.specs.Examples.{int, first_marked, second_marked}
use Rattle.rdx_lang.specs.declared.operation.HostOp.{HostOp}
use Rattle.rdx_lang.specs.declared.operation.HostOp.TheVariants.{Add, Sub, Mul, Quotient, Remainder, Add1, Sub1, Eq, Lt, Le, Gt, Ge, IsZero, Equal, Not}
use Rattle.rdx_delta.specs.Delta.{delta}
use Rattle.rdx_delta.specs.Reply.{Reply, value, host_domain, overflow, divide_by_zero}
use Rattle.rdx_delta.specs.Operations.{operations}
use Rattle.rdx_delta.specs.Table.{table_refusal}
use Rattle.rdx_delta.specs.declared.refusal.TableRefusal.TheVariants.{Twice, Missing}

-- ---- arguments of the examples

-- the least integer of 128 bits and the greatest: -2^127 and 2^127 - 1
abbrev pub least : Tree
least = integer (neg_ℤ (pos (2 ^ 127)))

abbrev pub greatest : Tree
greatest = int (2 ^ 127 - 1)

-- the integer -1
abbrev pub minus_one : Tree
minus_one = integer (negsuc 0)

-- the empty string, which is no integer
abbrev pub no_integer : Tree
no_integer = text []

-- the operation replies this to the trees
abbrev pub Replies : HostOp → List Tree → Reply → Type 0
Replies op ts r = delta op ts ≡ r

-- ---- the borders of 128 bits

-- the quotient of -2^127 by -1 overflows, and the remainder is 0
abbrev pub LeastQuotient : Type 0
LeastQuotient = Replies Quotient (least ∷ minus_one ∷ []) overflow

abbrev pub LeastRemainder : Type 0
LeastRemainder = Replies Remainder (least ∷ minus_one ∷ []) (value (int 0))

-- and `(- -2^127)` overflows
abbrev pub LeastNegated : Type 0
LeastNegated = Replies Sub (least ∷ []) overflow

-- a sum overflows where that of the first two arguments does, though the whole sum would fit: `(+ 2^127-1 1 -1)`
abbrev pub PartOverflows : Type 0
PartOverflows = Replies Add (greatest ∷ int 1 ∷ minus_one ∷ []) overflow

-- in another order no partial sum does: `(+ 2^127-1 -1 1)` is 2^127 - 1
abbrev pub OtherOrder : Type 0
OtherOrder = Replies Add (greatest ∷ minus_one ∷ int 1 ∷ []) (value greatest)

-- ---- what is told first

-- that an argument is no integer is told before a divisor of 0: `(quotient "" 0)`
abbrev pub KindBeforeZero : Type 0
KindBeforeZero = Replies Quotient (no_integer ∷ int 0 ∷ []) host_domain

-- and before an overflow by those in front of it: `(+ 2^127-1 1 "")`
abbrev pub KindBeforeOverflow : Type 0
KindBeforeOverflow = Replies Add (greatest ∷ int 1 ∷ no_integer ∷ []) host_domain

-- and also where an earlier comparison has failed: `(< 2 1 "")`
abbrev pub KindBehindFalse : Type 0
KindBehindFalse = Replies Lt (int 2 ∷ int 1 ∷ no_integer ∷ []) host_domain

-- that there is an argument too many is told before a divisor of 0 too: `(remainder 1 0 1)`
abbrev pub NumberBeforeZero : Type 0
NumberBeforeZero = Replies Remainder (int 1 ∷ int 0 ∷ int 1 ∷ []) host_domain

-- by 0 nothing is divided, and nothing overflows: `(quotient -2^127 0)`
abbrev pub ZeroDivides : Type 0
ZeroDivides = Replies Quotient (least ∷ int 0 ∷ []) divide_by_zero

-- ---- no arguments

-- `(+)` is 0, and `(*)` is 1
abbrev pub NoSummand : Type 0
NoSummand = Replies Add [] (value (int 0))

abbrev pub NoFactor : Type 0
NoFactor = Replies Mul [] (value (int 1))

-- `(-)` and `(=)` take one argument at least
abbrev pub NothingToSubtract : Type 0
NothingToSubtract = Replies Sub [] host_domain

abbrev pub NothingToCompare : Type 0
NothingToCompare = Replies Eq [] host_domain

-- ---- equality

-- `equal?` forgets marks: `(hole hole)` marked at its first hole and at its second are equal
abbrev pub MarksForgotten : Type 0
MarksForgotten = Replies Equal (first_marked ∷ second_marked ∷ []) (value (truth true))

-- ---- tables

-- one entry for each operation is enough, also in the reverse order
abbrev pub OtherWayRound : Type 0
OtherWayRound = table_refusal (reverse operations) ≡ None

-- all but `not`
abbrev pub all_but_not : List HostOp
all_but_not = Add ∷ Sub ∷ Mul ∷ Quotient ∷ Remainder ∷ Add1 ∷ Sub1 ∷ Eq ∷ Lt ∷ Le ∷ Gt ∷ Ge ∷ IsZero ∷ Equal ∷ []

-- `not` may not lack its entry
abbrev pub LacksOne : Type 0
LacksOne = table_refusal all_but_not ≡ Some (Missing Not)

-- and `+` may not have two
abbrev pub RepeatsOne : Type 0
RepeatsOne = table_refusal (Add ∷ operations) ≡ Some (Twice Add)

-- of several that are wrong the first in the order of operations is told, whatever entries there are: of two entries of `not` alone, that `+`
-- has none
abbrev pub FirstIsTold : Type 0
FirstIsTold = table_refusal (Not ∷ Not ∷ []) ≡ Some (Missing Add)

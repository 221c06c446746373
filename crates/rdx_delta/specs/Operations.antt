-- The words of host expressions (after the Racket reference): the operations, and how many arguments each takes.
use Rattle.std.specs.Prelude.{ℕ, zero, suc, Bool, true, false, ◌==◌, List, [], ◌∷◌, Option, Some, None, bytes_eq, codes, if◌then◌else◌}
use Rattle.rdx_lang.specs.declared.operation.HostOp.{HostOp}
use Rattle.rdx_lang.specs.declared.operation.HostOp.TheVariants.{Add, Sub, Mul, Quotient, Remainder, Add1, Sub1, Eq, Lt, Le, Gt, Ge, IsZero, Equal, Not}

-- how an operation is written
abbrev pub operation_text : HostOp → List ℕ
operation_text Add = codes "+"
operation_text Sub = codes "-"
operation_text Mul = codes "*"
operation_text Quotient = codes "quotient"
operation_text Remainder = codes "remainder"
operation_text Add1 = codes "add1"
operation_text Sub1 = codes "sub1"
operation_text Eq = codes "="
operation_text Lt = codes "<"
operation_text Le = codes "<="
operation_text Gt = codes ">"
operation_text Ge = codes ">="
operation_text IsZero = codes "zero?"
operation_text Equal = codes "equal?"
operation_text Not = codes "not"

-- the operations, in their order
abbrev pub operations : List HostOp
operations = Add ∷ Sub ∷ Mul ∷ Quotient ∷ Remainder ∷ Add1 ∷ Sub1 ∷ Eq ∷ Lt ∷ Le ∷ Gt ∷ Ge ∷ IsZero ∷ Equal ∷ Not ∷ []

-- the one of these operations that is written so
abbrev pub operation_among : List HostOp → List ℕ → Option HostOp
operation_among [] x = None
operation_among (op ∷ ops) x = if bytes_eq x (operation_text op) then Some op else operation_among ops x

-- the operation that is written so
abbrev pub operation_named : List ℕ → Option HostOp
operation_named x = operation_among operations x

-- there is one at least
abbrev pub is_positive : ℕ → Bool
is_positive zero = false
is_positive (suc n) = true

-- the operation takes so many arguments
abbrev pub takes : HostOp → ℕ → Bool
takes Add n = true
takes Sub n = is_positive n
takes Mul n = true
takes Quotient n = n == 2
takes Remainder n = n == 2
takes Add1 n = n == 1
takes Sub1 n = n == 1
takes Eq n = is_positive n
takes Lt n = is_positive n
takes Le n = is_positive n
takes Gt n = is_positive n
takes Ge n = is_positive n
takes IsZero n = n == 1
takes Equal n = n == 2
takes Not n = n == 1

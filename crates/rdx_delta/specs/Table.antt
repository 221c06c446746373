-- Which entries make a table, by their operations.
use Rattle.std.specs.Prelude.{ℕ, zero, suc, ◌==◌, Bool, Option, Some, None, List, [], ◌∷◌, count_by}
use Rattle.rdx_lang.specs.declared.operation.HostOp.{HostOp}
use Rattle.rdx_lang.specs.declared.operation.HostOp.TheVariants.{Add, Sub, Mul, Quotient, Remainder, Add1, Sub1, Eq, Lt, Le, Gt, Ge, IsZero, Equal, Not}
use Rattle.rdx_delta.specs.Operations.{operations}
use Rattle.rdx_delta.specs.declared.refusal.TableRefusal.{TableRefusal}
use Rattle.rdx_delta.specs.declared.refusal.TableRefusal.TheVariants.{Twice, Missing}

-- the place of an operation in the order, from 0
abbrev pub place : HostOp → ℕ
place Add = 0
place Sub = 1
place Mul = 2
place Quotient = 3
place Remainder = 4
place Add1 = 5
place Sub1 = 6
place Eq = 7
place Lt = 8
place Le = 9
place Gt = 10
place Ge = 11
place IsZero = 12
place Equal = 13
place Not = 14

-- whether the two are one operation
abbrev pub is_same : HostOp → HostOp → Bool
is_same a b = place a == place b

-- how many of these are the operation
abbrev pub times : HostOp → List HostOp → ℕ
times op ops = count_by (λ o. is_same o op) ops

-- what is wrong with an operation that has this many entries
abbrev pub wrong : HostOp → ℕ → Option TableRefusal
wrong op zero = Some (Missing op)
wrong op (suc zero) = None
wrong op (suc (suc k)) = Some (Twice op)

-- this refusal, or else that
abbrev pub or_else : Option TableRefusal → Option TableRefusal → Option TableRefusal
or_else None r = r
or_else (Some r) s = Some r

-- what is wrong with the first of these operations that hasn't exactly one entry
abbrev pub first_wrong : List HostOp → List HostOp → Option TableRefusal
first_wrong ops [] = None
first_wrong ops (op ∷ rest) = or_else (wrong op (times op ops)) (first_wrong ops rest)

-- Why entries of these operations make no table: what is wrong with the first operation, in their order, that hasn't exactly one. `None` is
-- that each has.
abbrev pub table_refusal : List HostOp → Option TableRefusal
table_refusal ops = first_wrong ops operations

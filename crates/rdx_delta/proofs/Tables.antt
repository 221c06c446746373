-- Tables: what a list of operations has where nothing is wrong with it.
use Rattle.std.proofs.Common.{◌≡◌, ℕ, zero, suc, ◌<◌, Option, Some, None, List, [], ◌∷◌, refl, arith}
use Rattle.rdx_lang.specs.declared.operation.HostOp.{HostOp}
use Rattle.rdx_lang.specs.declared.operation.HostOp.TheVariants.{Add, Sub, Mul, Quotient, Remainder, Add1, Sub1, Eq, Lt, Le, Gt, Ge, IsZero, Equal, Not}
use Rattle.rdx_delta.specs.declared.refusal.TableRefusal.{TableRefusal}
use Rattle.rdx_delta.specs.Operations.{operations}
use Rattle.rdx_delta.specs.Table.{times, wrong, or_else, first_wrong, table_refusal}

-- of two refusals neither is there
neither : (r s : Option TableRefusal) → or_else r s ≡ None → (r ≡ None) × (s ≡ None)
neither None s e = (refl, e)
neither (Some r) s e = cc

-- an operation with which nothing is wrong has an entry
has_one : (op : HostOp) (n : ℕ) → wrong op n ≡ None → 0 < n
has_one op zero e = cc
has_one op (suc zero) e = omega arith
has_one op (suc (suc n)) e = cc

-- each of these has an entry
abbrev AllHave : List HostOp → List HostOp → Type 0
AllHave ops [] = Unit {0}
AllHave ops (op ∷ rest) = (0 < times op ops) × AllHave ops rest

-- that is so where nothing is wrong with any of them
all_have : (ops rest : List HostOp) → first_wrong ops rest ≡ None → AllHave ops rest
all_have ops [] e = tt
all_have ops (op ∷ rest) e = let p = neither (wrong op (times op ops)) (first_wrong ops rest) e in (has_one op (times op ops) p.0, all_have ops rest p.1)

-- each operation has an entry where the entries are not refused
pub each_has : (ops : List HostOp) (op : HostOp) → table_refusal ops ≡ None → 0 < times op ops
each_has ops Add e = (all_have ops operations e).0
each_has ops Sub e = (all_have ops operations e).1.0
each_has ops Mul e = (all_have ops operations e).1.1.0
each_has ops Quotient e = (all_have ops operations e).1.1.1.0
each_has ops Remainder e = (all_have ops operations e).1.1.1.1.0
each_has ops Add1 e = (all_have ops operations e).1.1.1.1.1.0
each_has ops Sub1 e = (all_have ops operations e).1.1.1.1.1.1.0
each_has ops Eq e = (all_have ops operations e).1.1.1.1.1.1.1.0
each_has ops Lt e = (all_have ops operations e).1.1.1.1.1.1.1.1.0
each_has ops Le e = (all_have ops operations e).1.1.1.1.1.1.1.1.1.0
each_has ops Gt e = (all_have ops operations e).1.1.1.1.1.1.1.1.1.1.0
each_has ops Ge e = (all_have ops operations e).1.1.1.1.1.1.1.1.1.1.1.0
each_has ops IsZero e = (all_have ops operations e).1.1.1.1.1.1.1.1.1.1.1.1.0
each_has ops Equal e = (all_have ops operations e).1.1.1.1.1.1.1.1.1.1.1.1.1.0
each_has ops Not e = (all_have ops operations e).1.1.1.1.1.1.1.1.1.1.1.1.1.1.0

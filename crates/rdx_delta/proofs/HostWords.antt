-- The words of operations.
use Rattle.std.proofs.Common.{◌≡◌, ◌∙◌, ℕ, zero, suc, add-one, ◌+◌, ◌<◌, length, drop, get_or, Bool, true, false, List, [], ◌∷◌, Option, Some, refl, ap, arith, if◌then◌else◌}
use Rattle.std.specs.Cmp.Lexicographic.{bytes_decides}
use Rattle.std.specs.Prelude.{bytes_eq}
use Rattle.rdx_lang.specs.declared.operation.HostOp.{HostOp}
use Rattle.rdx_lang.specs.declared.operation.HostOp.TheVariants.{Add, Sub, Mul, Quotient, Remainder, Add1, Sub1, Eq, Lt, Le, Gt, Ge, IsZero, Equal, Not}
use Rattle.rdx_delta.specs.Laws.{EachHasOneWord}
use Rattle.rdx_delta.specs.Operations.{operation_text, operations, operation_among, operation_named}

-- at a place the rest begins with what stands there
drop-get : {A : Type 0} (ds : List A) (i : ℕ) (d : A) → i < length ds → drop i ds ≡ get_or ds i d ∷ drop (i + 1) ds
drop-get [] i d h = absurd (omega (arith, h))
drop-get (c ∷ ds) zero d h = refl
drop-get (c ∷ ds) (suc i) d h = let k = drop-get ds i d (omega (arith, h)) in rw add-one (rw add-one at k)

-- behind an operation that is not written so
pub among-behind : (ops : List HostOp) (x : List ℕ) (i : ℕ) (op : HostOp) → i < length ops → bytes_eq x (operation_text (get_or ops i op)) ≡ false
    → operation_among (drop i ops) x ≡ operation_among (drop (i + 1) ops) x
among-behind ops x i op h f = ap (λ os. operation_among os x) (drop-get ops i op h) ∙ by_test (bytes_eq x (operation_text (get_or ops i op))) f
  where
    by_test : (b : Bool) → b ≡ false → (let o : Option HostOp = if b then Some (get_or ops i op) else operation_among (drop (i + 1) ops) x in o) ≡ operation_among (drop (i + 1) ops) x
    by_test true g = absurd cc
    by_test false g = refl

-- an operation that is found is written so
found-written : (ops : List HostOp) (x : List ℕ) (op : HostOp) → operation_among ops x ≡ Some op → x ≡ operation_text op
found-written [] x op e = absurd cc
found-written (o ∷ ops) x op e = by_test (bytes_eq x (operation_text o)) refl (found-written ops x op) e
  where
    by_test : (b : Bool) → bytes_eq x (operation_text o) ≡ b → (operation_among ops x ≡ Some op → x ≡ operation_text op)
        → (let r : Option HostOp = if b then Some o else operation_among ops x in r) ≡ Some op → x ≡ operation_text op
    by_test true t h e = let k : o ≡ op = cc in (bytes_decides x (operation_text o)).0 t ∙ ap operation_text k
    by_test false t h e = h e

-- and each is found by how it is written
written-found : (op : HostOp) → operation_named (operation_text op) ≡ Some op
written-found Add = refl
written-found Sub = refl
written-found Mul = refl
written-found Quotient = refl
written-found Remainder = refl
written-found Add1 = refl
written-found Sub1 = refl
written-found Eq = refl
written-found Lt = refl
written-found Le = refl
written-found Gt = refl
written-found Ge = refl
written-found IsZero = refl
written-found Equal = refl
written-found Not = refl

-- so it has one word
pub one_word : EachHasOneWord
one_word op x = (λ e. found-written operations x op e, λ e. ap operation_named e ∙ written-found op)

-- How many arguments operations take.
use Rattle.std.proofs.Common.{◌≡◌, ℕ, zero, suc, ◌+ℤ◌, ◌-ℤ◌, ◌*ℤ◌, ℤ, pos, ◌==◌, Bool, true, false, Option, Some, None, List, [], ◌∷◌, length, refl, sym, ◌∙◌, ap}
use Rattle.std.proofs.lemmas.Bool.{eqb-true}
use Rattle.std.specs.Prelude.{int_lt, int_le}
use Rattle.std.specs.Ordering.{int_eq}
use Rattle.rdx_term.specs.Tree.{Tree, hole, integer, truth, text, symbol, list}
use Rattle.rdx_lang.specs.Examples.{int}
use Rattle.rdx_lang.specs.declared.operation.HostOp.{HostOp}
use Rattle.rdx_lang.specs.declared.operation.HostOp.TheVariants.{Add, Sub, Mul, Quotient, Remainder, Add1, Sub1, Eq, Lt, Le, Gt, Ge, IsZero, Equal, Not}
use Rattle.rdx_delta.specs.Delta.{folded, difference, quotient, remainder, stepped, neighbours, compared, zero_test, equality, negation, in_front, integers, of_integers, delta}
use Rattle.rdx_delta.specs.Laws.{HasValue, WrongNumberIsDomain, TakenNumberHasValue}
use Rattle.rdx_delta.specs.Operations.{is_positive}
use Rattle.rdx_delta.specs.Reply.{Reply, value, host_domain}

-- ---- a wrong number

-- with a number in front of the numbers, f answers what it answers to all of them
in_front-of : (f : List ℤ → Reply) (n : ℤ) (o : Option (List ℤ)) → of_integers f (in_front n o) ≡ of_integers (λ ns. f (n ∷ ns)) o
in_front-of f n None = refl
in_front-of f n (Some ns) = refl

-- where f has no answer to so many integers, it has none to so many trees
outside : (f : List ℤ → Reply) (ts : List Tree) → ((ns : List ℤ) → length ns ≡ length ts → f ns ≡ host_domain) → of_integers f (integers ts) ≡ host_domain
outside f [] h = h [] refl
outside f (integer n ∷ ts) h = in_front-of f n (integers ts) ∙ outside (λ ns. f (n ∷ ns)) ts (λ ns e. h (n ∷ ns) (ap suc e))
outside f (hole ∷ ts) h = refl
outside f (truth b ∷ ts) h = refl
outside f (text s ∷ ts) h = refl
outside f (symbol s ∷ ts) h = refl
outside f (list m us ∷ ts) h = refl

-- the same by a test of the length
outside-by : (f : List ℤ → Reply) (test : ℕ → Bool) → ((ns : List ℤ) → test (length ns) ≡ false → f ns ≡ host_domain) → (ts : List Tree)
    → test (length ts) ≡ false → of_integers f (integers ts) ≡ host_domain
outside-by f test h ts e = outside f ts (λ ns l. h ns (ap test l ∙ e))

-- each function of integers has none to another number than it takes
difference-outside : (ns : List ℤ) → is_positive (length ns) ≡ false → difference ns ≡ host_domain
difference-outside [] e = refl
difference-outside (n ∷ ns) e = cc

compared-outside : (holds : ℤ → ℤ → Bool) (ns : List ℤ) → is_positive (length ns) ≡ false → compared holds ns ≡ host_domain
compared-outside holds [] e = refl
compared-outside holds (n ∷ ns) e = cc

quotient-outside : (ns : List ℤ) → (length ns == 2) ≡ false → quotient ns ≡ host_domain
quotient-outside [] e = refl
quotient-outside (n ∷ []) e = refl
quotient-outside (n ∷ m ∷ []) e = cc
quotient-outside (n ∷ m ∷ k ∷ ns) e = refl

remainder-outside : (ns : List ℤ) → (length ns == 2) ≡ false → remainder ns ≡ host_domain
remainder-outside [] e = refl
remainder-outside (n ∷ []) e = refl
remainder-outside (n ∷ m ∷ []) e = cc
remainder-outside (n ∷ m ∷ k ∷ ns) e = refl

stepped-outside : (f : ℤ → ℤ) (ns : List ℤ) → (length ns == 1) ≡ false → stepped f ns ≡ host_domain
stepped-outside f [] e = refl
stepped-outside f (n ∷ []) e = cc
stepped-outside f (n ∷ m ∷ ns) e = refl

zero_test-outside : (ns : List ℤ) → (length ns == 1) ≡ false → zero_test ns ≡ host_domain
zero_test-outside [] e = refl
zero_test-outside (n ∷ []) e = cc
zero_test-outside (n ∷ m ∷ ns) e = refl

-- and so have those of any trees
equality-outside : (ts : List Tree) → (length ts == 2) ≡ false → equality ts ≡ host_domain
equality-outside [] e = refl
equality-outside (t ∷ []) e = refl
equality-outside (t ∷ u ∷ []) e = cc
equality-outside (t ∷ u ∷ v ∷ ts) e = refl

negation-outside : (ts : List Tree) → (length ts == 1) ≡ false → negation ts ≡ host_domain
negation-outside [] e = refl
negation-outside (t ∷ []) e = cc
negation-outside (hole ∷ u ∷ ts) e = refl
negation-outside (integer n ∷ u ∷ ts) e = refl
negation-outside (truth true ∷ u ∷ ts) e = refl
negation-outside (truth false ∷ u ∷ ts) e = refl
negation-outside (text s ∷ u ∷ ts) e = refl
negation-outside (symbol s ∷ u ∷ ts) e = refl
negation-outside (list m us ∷ u ∷ ts) e = refl

-- so a list of another length than an operation takes is outside of its domain
pub wrong_number : WrongNumberIsDomain
wrong_number Add ts e = cc
wrong_number Sub ts e = outside-by difference is_positive difference-outside ts e
wrong_number Mul ts e = cc
wrong_number Quotient ts e = outside-by quotient (λ n. n == 2) quotient-outside ts e
wrong_number Remainder ts e = outside-by remainder (λ n. n == 2) remainder-outside ts e
wrong_number Add1 ts e = outside-by (stepped (λ n. n +ℤ pos 1)) (λ n. n == 1) (stepped-outside (λ n. n +ℤ pos 1)) ts e
wrong_number Sub1 ts e = outside-by (stepped (λ n. n -ℤ pos 1)) (λ n. n == 1) (stepped-outside (λ n. n -ℤ pos 1)) ts e
wrong_number Eq ts e = outside-by (compared int_eq) is_positive (compared-outside int_eq) ts e
wrong_number Lt ts e = outside-by (compared int_lt) is_positive (compared-outside int_lt) ts e
wrong_number Le ts e = outside-by (compared int_le) is_positive (compared-outside int_le) ts e
wrong_number Gt ts e = outside-by (compared (λ n m. int_lt m n)) is_positive (compared-outside (λ n m. int_lt m n)) ts e
wrong_number Ge ts e = outside-by (compared (λ n m. int_le m n)) is_positive (compared-outside (λ n m. int_le m n)) ts e
wrong_number IsZero ts e = outside-by zero_test (λ n. n == 1) zero_test-outside ts e
wrong_number Equal ts e = equality-outside ts e
wrong_number Not ts e = negation-outside ts e

-- ---- a number that is taken

-- so many zeros, as trees and as integers
abbrev zeros : ℕ → List Tree
zeros zero = []
zeros (suc n) = int 0 ∷ zeros n

abbrev zero_integers : ℕ → List ℤ
zero_integers zero = []
zero_integers (suc n) = pos 0 ∷ zero_integers n

length-zeros : (n : ℕ) → length (zeros n) ≡ n
length-zeros zero = refl
length-zeros (suc n) = ap suc (length-zeros n)

integers-zeros : (n : ℕ) → integers (zeros n) ≡ Some (zero_integers n)
integers-zeros zero = refl
integers-zeros (suc n) = ap (in_front (pos 0)) (integers-zeros n)

-- so what f answers to such trees is what it answers to the integers
of-zeros : (f : List ℤ → Reply) (n : ℕ) (t : Tree) → f (zero_integers n) ≡ value t → of_integers f (integers (zeros n)) ≡ value t
of-zeros f n t e = ap (of_integers f) (integers-zeros n) ∙ e

-- from 0 on they add up to 0, leave 0 of it, and multiply to 0
added-zeros : (n : ℕ) → folded ◌+ℤ◌ (pos 0) (zero_integers n) ≡ value (int 0)
added-zeros zero = refl
added-zeros (suc n) = added-zeros n

less-zeros : (n : ℕ) → folded ◌-ℤ◌ (pos 0) (zero_integers n) ≡ value (int 0)
less-zeros zero = refl
less-zeros (suc n) = less-zeros n

times-zeros : (n : ℕ) → folded ◌*ℤ◌ (pos 0) (zero_integers n) ≡ value (int 0)
times-zeros zero = refl
times-zeros (suc n) = times-zeros n

-- zeros that are compared, where there is one
zeros_are_compared : (op : HostOp) (holds : ℤ → ℤ → Bool) → ((ts : List Tree) → delta op ts ≡ of_integers (compared holds) (integers ts)) → (n : ℕ)
    → is_positive n ≡ true → HasValue op n
zeros_are_compared op holds h zero e = absurd cc
zeros_are_compared op holds h (suc n) e =
    let t : Tree = truth (neighbours holds (zero_integers (suc n))) in
    record { arguments = zeros (suc n); reply = t; as_many = length-zeros (suc n); replied = h (zeros (suc n)) ∙ of-zeros (compared holds) (suc n) t refl }

-- so each number that an operation takes is that of a list with a value
pub taken_number : TakenNumberHasValue
taken_number Add n e =
    record { arguments = zeros n; reply = int 0; as_many = length-zeros n; replied = of-zeros (folded ◌+ℤ◌ (pos 0)) n (int 0) (added-zeros n) }
taken_number Sub zero e = absurd cc
taken_number Sub (suc zero) e = record { arguments = int 0 ∷ []; reply = int 0; as_many = refl; replied = refl }
taken_number Sub (suc (suc n)) e =
    let m : ℕ = suc (suc n) in
    record { arguments = zeros m; reply = int 0; as_many = length-zeros m; replied = of-zeros difference m (int 0) (less-zeros (suc n)) }
taken_number Mul zero e = record { arguments = []; reply = int 1; as_many = refl; replied = refl }
taken_number Mul (suc n) e =
    let m : ℕ = suc n in
    record { arguments = zeros m; reply = int 0; as_many = length-zeros m; replied = of-zeros (folded ◌*ℤ◌ (pos 1)) m (int 0) (times-zeros n) }
taken_number Quotient n e = record { arguments = int 0 ∷ int 1 ∷ []; reply = int 0; as_many = sym (eqb-true n 2 e); replied = refl }
taken_number Remainder n e = record { arguments = int 0 ∷ int 1 ∷ []; reply = int 0; as_many = sym (eqb-true n 2 e); replied = refl }
taken_number Add1 n e = record { arguments = int 0 ∷ []; reply = int 1; as_many = sym (eqb-true n 1 e); replied = refl }
taken_number Sub1 n e = record { arguments = int 1 ∷ []; reply = int 0; as_many = sym (eqb-true n 1 e); replied = refl }
taken_number Eq n e = zeros_are_compared Eq int_eq (λ ts. refl) n e
taken_number Lt n e = zeros_are_compared Lt int_lt (λ ts. refl) n e
taken_number Le n e = zeros_are_compared Le int_le (λ ts. refl) n e
taken_number Gt n e = zeros_are_compared Gt (λ k m. int_lt m k) (λ ts. refl) n e
taken_number Ge n e = zeros_are_compared Ge (λ k m. int_le m k) (λ ts. refl) n e
taken_number IsZero n e = record { arguments = int 0 ∷ []; reply = truth true; as_many = sym (eqb-true n 1 e); replied = refl }
taken_number Equal n e = record { arguments = int 0 ∷ int 0 ∷ []; reply = truth true; as_many = sym (eqb-true n 2 e); replied = refl }
taken_number Not n e = record { arguments = int 0 ∷ []; reply = truth false; as_many = sym (eqb-true n 1 e); replied = refl }

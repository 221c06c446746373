-- Arguments of one, of two, and a first one with others.
use Rattle.std.proofs.Common.{◌≡◌, ◌<◌, ◌≤◌, ℤ, pos, Bool, true, false, if◌then◌else◌, Option, Some, None, List, [], ◌∷◌, length, get_or, map, refl, sym, ◌∙◌, ap, FitsSigned, IsTrue, ◌↔◌, arith}
use Rattle.std.specs.Prelude.{int_div, ◌-ℤ◌}
use Rattle.std.specs.declared.cmp.Ordering.{Ordering}
use Rattle.std.specs.declared.cmp.Ordering.TheVariants.{Less, Equal, Greater}
use Rattle.std.specs.Int.{w128, CanDivide, IsNonZero}
use Rattle.std.specs.Option.{SomeIff}
use Rattle.std.specs.Ordering.{int_eq, is_eq}
use Rattle.rdx_term.specs.Tree.{Tree, integer, truth}
use Rattle.rdx_term.specs.Bare.{bare}
use Rattle.rdx_term.specs.Order.{tree_cmp}
use Rattle.rdx_term.proofs.OrderLaws.{tree_cmp-equal, tree_cmp-itself}
use Rattle.rdx_term.specs.declared.term.Term.{Term}
use Rattle.rdx_term.specs.View.{tree_of}
use Rattle.rdx_delta.specs.Reply.{value, divide_by_zero}
use Rattle.rdx_delta.specs.Delta.{in_range, folded, difference, quotient, equality, in_front, integers, of_integers}
use Rattle.rdx_delta.specs.Inside.Steps.{one_integer, two_integers}

-- where two arguments are integers, they are the integers
two_integers-are : (ts : List Tree) (n d : ℤ) → two_integers ts ≡ Some (n, d) → integers ts ≡ Some (n ∷ d ∷ [])
two_integers-are (integer m ∷ integer k ∷ []) n d e = let l : ℤ × ℤ = (m, k) in let r : ℤ × ℤ = (n, d) in let p : l ≡ r = cc in ap (λ (q : ℤ × ℤ). Some (q.0 ∷ q.1 ∷ [])) p
two_integers-are ts n d e = cc

-- by a divisor other than 0, the quotient of two
pub quotient_of_two : (ts : List Tree) (n d : ℤ) → two_integers ts ≡ Some (n, d) → int_eq d (pos 0) ≡ false → in_range (int_div n d) ≡ of_integers quotient (integers ts)
quotient_of_two ts n d e z = ap (λ b. if b then divide_by_zero else in_range (int_div n d)) (sym z) ∙ ap (of_integers quotient) (sym (two_integers-are ts n d e))

-- where the divisor isn't 0, what may be divided is what has its quotient in range
pub divided : (r : Option ℤ) (n d : ℤ) → IsNonZero w128 d → SomeIff r (CanDivide w128 n d) (int_div n d) → SomeIff r (FitsSigned w128 (int_div n d)) (int_div n d)
divided None n d z s = λ f. s (z, f)
divided (Some q) n d z s = (s.0.1, s.1)

-- where several arguments begin with an integer, their difference is what the others leave of it
pub difference_on : (ts us : List Tree) (n : ℤ) → one_integer ts ≡ None → ts ≡ integer n ∷ us → of_integers (folded ◌-ℤ◌ n) (integers us) ≡ of_integers difference (integers ts)
difference_on ts [] n e d = let k : one_integer (integer n ∷ []) ≡ None = ap one_integer (sym d) ∙ e in cc
difference_on ts (u ∷ us) n e d = go u us ∙ ap (λ vs. of_integers difference (integers vs)) (sym d)
  where
    more : (m : ℤ) (o : Option (List ℤ)) → of_integers (folded ◌-ℤ◌ n) (in_front m o) ≡ of_integers difference (in_front n (in_front m o))
    more m None = refl
    more m (Some ns) = refl

    go : (u : Tree) (us : List Tree) → of_integers (folded ◌-ℤ◌ n) (integers (u ∷ us)) ≡ of_integers difference (integers (integer n ∷ u ∷ us))
    go (integer m) us = more m (integers us)
    go u us = refl

-- an answer that is true exactly for equal trees is that of their order
same_answer : (b : Bool) (t u : Tree) → (IsTrue b ↔ (t ≡ u)) → b ≡ is_eq (tree_cmp t u)
same_answer true t u h = sym (ap is_eq (tree_cmp-itself t u (h.0 refl)))
same_answer false t u h = go (tree_cmp t u) refl
  where
    go : (o : Ordering) → tree_cmp t u ≡ o → false ≡ is_eq o
    go Less e = refl
    go Equal e = h.1 (tree_cmp-equal t u e)
    go Greater e = refl

-- so whether two arguments are equal but for marks is such an answer
pub equality_of_two : (xs : List Term) (t u : Term) (b : Bool) → 2 ≤ length xs → length xs < 3 → t ≡ get_or xs 0 t → u ≡ get_or xs 1 u → (IsTrue b ↔ (bare (tree_of t) ≡ bare (tree_of u)))
    → value (truth b) ≡ equality (map tree_of xs)
equality_of_two [] t u b l s d e h = absurd (omega arith)
equality_of_two (x ∷ []) t u b l s d e h = absurd (omega arith)
equality_of_two (x ∷ y ∷ []) t u b l s d e h = ap (λ z. value (truth z)) (same_answer b (bare (tree_of t)) (bare (tree_of u)) h) ∙ (λ i. value (truth (is_eq (tree_cmp (bare (tree_of (d i))) (bare (tree_of (e i)))))))
equality_of_two (x ∷ y ∷ z ∷ zs) t u b l s d e h = absurd (omega arith)

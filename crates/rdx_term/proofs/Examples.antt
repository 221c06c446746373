-- The worked examples hold.
use Rattle.std.proofs.Common.{◌≡◌, ℕ, zero, suc, ◌+◌, Option, Some, refl, sym, subst, arith}
use mathlib.Core.Bool.{true≢false}
use Rattle.std.specs.Fmt.{digits}
use Rattle.std.specs.Str.{chars}
use Rattle.rdx_term.specs.Tree.{hole, list, tree_depth, tree_nodes, trees_nodes, tree_holes, trees_holes, trees_depth}
use Rattle.rdx_term.specs.Context.{IsMarked, AreMarked}
use Rattle.rdx_term.specs.Terms.{IsTerm, IsSpelled, AreSpelled}
use Rattle.rdx_term.specs.Examples.{int, two, nested, ones, PrintedList, PrintedContext, OneHole, TwoHoles, MarkAtNoContext, BareForgets, Names, NumbersAreNoNames, OthersAreNoNames, HoleIsNoName, DepthLimit, NodeLimit}
use Rattle.rdx_term.proofs.Trees.{one_hole-mark}

pub printed_list : PrintedList
unfolding digits
printed_list = refl

pub printed_context : PrintedContext
unfolding digits
printed_context = refl

-- `(1 hole)` is a term with its mark
marked_at_hole : IsTerm (list (Some 1) (two (int 1) hole))
marked_at_hole = record { marked = (refl, (tt, (tt, tt))); spelled = (record { sfits = omega arith }, (tt, tt)); shallow = omega arith; small = omega arith }

pub one_hole : OneHole
one_hole mark = (
  λ v. one_hole-mark mark (two (int 1) hole) v.marked.0 refl,
  λ e. subst (λ (m : Option ℕ). IsTerm (list m (two (int 1) hole))) (sym e) marked_at_hole,
)

pub two_holes : TwoHoles
two_holes = (
  record { marked = (λ e. absurd (omega arith), (tt, (tt, tt))); spelled = (tt, (tt, tt)); shallow = omega arith; small = omega arith },
  record { marked = (refl, (tt, (tt, tt))); spelled = (tt, (tt, tt)); shallow = omega arith; small = omega arith },
  record { marked = (refl, (tt, (tt, tt))); spelled = (tt, (tt, tt)); shallow = omega arith; small = omega arith },
)

pub mark_at_no_context : MarkAtNoContext
mark_at_no_context v = absurd (true≢false (sym v.marked.0))

pub bare_forgets : BareForgets
bare_forgets = (λ e. cc, refl)

-- ---- names

pub names : Names
unfolding chars
names = refl

pub numbers_are_no_names : NumbersAreNoNames
unfolding chars
numbers_are_no_names = refl

pub others_are_no_names : OthersAreNoNames
unfolding chars
others_are_no_names = refl

pub hole_is_no_name : HoleIsNoName
unfolding chars
hole_is_no_name = (refl, refl)

-- ---- limits

tree_depth-nested : (n : ℕ) → tree_depth (nested n) ≡ n
tree_depth-nested zero = refl
tree_depth-nested (suc n) = omega (arith, tree_depth-nested n)

tree_nodes-nested : (n : ℕ) → tree_nodes (nested n) ≡ n + 1
tree_nodes-nested zero = refl
tree_nodes-nested (suc n) = omega (arith, tree_nodes-nested n)

tree_holes-nested : (n : ℕ) → tree_holes (nested n) ≡ 0
tree_holes-nested zero = refl
tree_holes-nested (suc n) = omega (arith, tree_holes-nested n)

marked-nested : (n : ℕ) → IsMarked (nested n)
marked-nested zero = tt
marked-nested (suc n) = (λ e. absurd (omega (arith, tree_holes-nested n)), (marked-nested n, tt))

spelled-nested : (n : ℕ) → IsSpelled (nested n)
spelled-nested zero = record { sfits = omega arith }
spelled-nested (suc n) = (spelled-nested n, tt)

pub depth_limit : DepthLimit
depth_limit n = (
  (
    (λ v. let shallow = v.shallow in omega (arith, tree_depth-nested n)),
    (λ h. record {
      marked = marked-nested n;
      spelled = spelled-nested n;
      shallow = omega (arith, tree_depth-nested n);
      small = omega (arith, tree_nodes-nested n);
    }),
  ),
  ((λ h. omega (arith, tree_depth-nested n)), (λ h. omega (arith, tree_depth-nested n))),
)

trees_nodes-ones : (n : ℕ) → trees_nodes (ones n) ≡ n
trees_nodes-ones zero = refl
trees_nodes-ones (suc n) = omega (arith, trees_nodes-ones n)

trees_depth-ones : (n : ℕ) → trees_depth (ones n) ≡ 0
trees_depth-ones zero = refl
trees_depth-ones (suc n) = omega (arith, trees_depth-ones n)

trees_holes-ones : (n : ℕ) → trees_holes (ones n) ≡ 0
trees_holes-ones zero = refl
trees_holes-ones (suc n) = omega (arith, trees_holes-ones n)

marked-ones : (n : ℕ) → AreMarked (ones n)
marked-ones zero = tt
marked-ones (suc n) = (tt, marked-ones n)

spelled-ones : (n : ℕ) → AreSpelled (ones n)
spelled-ones zero = tt
spelled-ones (suc n) = (record { sfits = omega arith }, spelled-ones n)

pub node_limit : NodeLimit
node_limit n = (
  (
    (λ v. let small = v.small in omega (arith, trees_nodes-ones n)),
    (λ h. record {
      marked = ((λ e. absurd (omega (arith, trees_holes-ones n))), marked-ones n);
      spelled = spelled-ones n;
      shallow = omega (arith, trees_depth-ones n);
      small = omega (arith, trees_nodes-ones n);
    }),
  ),
  (
    (λ h. let over = h.1 in omega (arith, trees_nodes-ones n)),
    (λ h. (omega (arith, trees_depth-ones n), omega (arith, trees_nodes-ones n))),
  ),
)

-- What follows from the definitions on trees: how holes, nodes, marks and contexts hang together.
use Rattle.std.proofs.Common.{◌≡◌, ◌≢◌, ℕ, zero, suc, ◌+◌, ◌≤◌, ◌==◌, Bool, true, false, if◌then◌else◌, ◌⊎◌, inl, inr, Option, Some, None, IsTrue, refl, sym, ap, add-one, arith}
use mathlib.Core.Bool.{true≢false}
use Rattle.std.proofs.lemmas.Bool.Decides.{eqb_tells, nat_tests}
use Rattle.rdx_term.specs.Tree.{Tree, hole, integer, truth, text, symbol, list, Trees, nil, cons, tree_nodes, trees_nodes, tree_holes, trees_holes, trees_depth}
use Rattle.rdx_term.specs.Context.{is_context, is_context_at, MarkFits, IsMarked, AreMarked}
use Rattle.rdx_term.specs.Terms.{AreSpelled, IsTerm}
use Rattle.rdx_term.specs.Building.{hole_place, mark_for, list_of}

-- each hole is a node
mutual
  pub tree_holes_le-nodes : (t : Tree) → tree_holes t ≤ tree_nodes t
  tree_holes_le-nodes hole = omega arith
  tree_holes_le-nodes (integer n) = omega arith
  tree_holes_le-nodes (truth b) = omega arith
  tree_holes_le-nodes (text s) = omega arith
  tree_holes_le-nodes (symbol s) = omega arith
  tree_holes_le-nodes (list m ts) = let among_items : trees_holes ts ≤ trees_nodes ts = trees_holes_le-nodes ts in omega arith

  pub trees_holes_le-nodes : (ts : Trees) → trees_holes ts ≤ trees_nodes ts
  trees_holes_le-nodes nil = omega arith
  trees_holes_le-nodes (cons t ts) =
      let in_first : tree_holes t ≤ tree_nodes t = tree_holes_le-nodes t in
      let in_others : trees_holes ts ≤ trees_nodes ts = trees_holes_le-nodes ts in
      omega arith

-- a context has a hole
mutual
  pub context-holes : (t : Tree) → IsTrue (is_context t) → 1 ≤ tree_holes t
  context-holes hole h = omega arith
  context-holes (integer n) h = absurd (true≢false (sym h))
  context-holes (truth b) h = absurd (true≢false (sym h))
  context-holes (text s) h = absurd (true≢false (sym h))
  context-holes (symbol s) h = absurd (true≢false (sym h))
  context-holes (list None ts) h = absurd (true≢false (sym h))
  context-holes (list (Some k) ts) h = context_at-holes ts k h

  pub context_at-holes : (ts : Trees) (k : ℕ) → IsTrue (is_context_at ts k) → 1 ≤ trees_holes ts
  context_at-holes nil k h = absurd (true≢false (sym h))
  context_at-holes (cons t ts) zero h = let in_first : 1 ≤ tree_holes t = context-holes t h in omega arith
  context_at-holes (cons t ts) (suc k) h = let in_others : 1 ≤ trees_holes ts = context_at-holes ts k h in omega arith

-- a term with exactly one hole is a context
pub one_hole-context : (t : Tree) → IsMarked t → tree_holes t ≡ 1 → IsTrue (is_context t)
one_hole-context hole m e = refl
one_hole-context (integer n) m e = absurd (omega arith)
one_hole-context (truth b) m e = absurd (omega arith)
one_hole-context (text s) m e = absurd (omega arith)
one_hole-context (symbol s) m e = absurd (omega arith)
one_hole-context (list None ts) m e = absurd (m.0 e)
one_hole-context (list (Some k) ts) m e = m.0

here_or_later : (t : Tree) (ts : Trees) (place : ℕ) (b : Bool) → ((b ≡ true) × (tree_holes t ≡ 0)) ⊎ ((b ≡ false) × (tree_holes t ≢ 0))
    → IsMarked t → tree_holes t + trees_holes ts ≡ 1 → (trees_holes ts ≡ 1 → IsTrue (is_context_at ts place)) → IsTrue (is_context_at (cons t ts) (if b then place + 1 else 0))
here_or_later t ts place true (inl h) m e later = rw add-one (later (omega arith))
here_or_later t ts place true (inr h) m e later = absurd (true≢false h.0)
here_or_later t ts place false (inl h) m e later = absurd (true≢false (sym h.0))
here_or_later t ts place false (inr h) m e later = one_hole-context t m (omega arith)

-- the one hole stands in a context
pub hole_place-context : (ts : Trees) → AreMarked ts → trees_holes ts ≡ 1 → IsTrue (is_context_at ts (hole_place ts))
hole_place-context nil m e = absurd (omega arith)
hole_place-context (cons t ts) m e = here_or_later t ts (hole_place ts) (tree_holes t == 0) (eqb_tells (tree_holes t) 0) m.0 e (hole_place-context ts m.1)

first_place : (place holes : ℕ) → 1 ≤ holes → 0 ≡ (if holes == 0 then place + 1 else 0)
first_place place holes h = grind (arith, nat_tests)

later_place : (place holes k : ℕ) → holes ≡ 0 → k ≡ place → suc k ≡ (if holes == 0 then place + 1 else 0)
later_place place holes k h e = grind (arith, nat_tests)

-- where there is exactly one hole, a context stands at the place of it
pub context_at-place : (ts : Trees) (k : ℕ) → IsTrue (is_context_at ts k) → trees_holes ts ≡ 1 → k ≡ hole_place ts
context_at-place nil k h e = absurd (true≢false (sym h))
context_at-place (cons t ts) zero h e = first_place (hole_place ts) (tree_holes t) (context-holes t h)
context_at-place (cons t ts) (suc k) h e =
    let in_others : 1 ≤ trees_holes ts = context_at-holes ts k h in
    let place_is : k ≡ hole_place ts = context_at-place ts k h (omega arith) in
    later_place (hole_place ts) (tree_holes t) k (omega arith) place_is

mark_where : (ts : Trees) (b : Bool) → ((b ≡ true) × (trees_holes ts ≡ 1)) ⊎ ((b ≡ false) × (trees_holes ts ≢ 1)) → AreMarked ts → MarkFits (if b then Some (hole_place ts) else None) ts
mark_where ts true (inl h) m = hole_place-context ts m h.1
mark_where ts true (inr h) m = absurd (true≢false h.0)
mark_where ts false (inl h) m = absurd (true≢false (sym h.0))
mark_where ts false (inr h) m = h.1

-- the mark that a list of terms gets fits
pub mark_for-fits : (ts : Trees) → AreMarked ts → MarkFits (mark_for ts) ts
mark_for-fits ts m = mark_where ts (trees_holes ts == 1) (eqb_tells (trees_holes ts) 1) m

-- a list with exactly one hole has no other mark than that
pub one_hole-mark : (m : Option ℕ) (ts : Trees) → MarkFits m ts → trees_holes ts ≡ 1 → m ≡ Some (hole_place ts)
one_hole-mark None ts f e = absurd (f e)
one_hole-mark (Some k) ts f e = ap Some (context_at-place ts k f e)

-- the list of marked items is a term, within the limits
pub list_of-term : (ts : Trees) → AreMarked ts → AreSpelled ts → trees_depth ts + 1 ≤ 500 → trees_nodes ts + 1 ≤ 4_000_000 → IsTerm (list_of ts)
list_of-term ts m q d n = record { spelled = q; marked = (mark_for-fits ts m, m); shallow = d; small = n }

-- a list that is marked at a context is a term, within the limits
pub marked-term : (ts : Trees) (k : ℕ) → AreMarked ts → AreSpelled ts → IsTrue (is_context_at ts k) → trees_depth ts + 1 ≤ 500 → trees_nodes ts + 1 ≤ 4_000_000 → IsTerm (list (Some k) ts)
marked-term ts k m q h d n = record { spelled = q; marked = (h, m); shallow = d; small = n }

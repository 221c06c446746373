-- The depth, the nodes and the holes of filled contexts, the length of paths, and the limits.
use Rattle.std.proofs.Common.{◌≡◌, ℕ, zero, suc, ◌+◌, ◌≤◌, max, Bool, true, false, if◌then◌else◌, IsTrue, Some, None, length, refl, sym, subst, arith}
use mathlib.Core.Bool.{true≢false}
use Rattle.rdx_term.specs.Tree.{Tree, hole, integer, truth, text, symbol, list, Trees, nil, cons, tree_depth, trees_depth, tree_nodes, trees_nodes, tree_holes, trees_holes}
use Rattle.rdx_term.specs.Context.{is_context, is_context_at}
use Rattle.rdx_term.specs.Building.{list_of}
use Rattle.rdx_term.specs.Fill.{marked_at, fill_of, fill_at}
use Rattle.rdx_term.specs.Path.{path, path_at}
use Rattle.rdx_term.specs.Limits.{KeepsLimits}

-- ---- of a list that is marked at a place if it can be, which are those of its items

depth_where : (b : Bool) (k : ℕ) (ts : Trees) → tree_depth (if b then list (Some k) ts else list_of ts) ≡ trees_depth ts + 1
depth_where true k ts = refl
depth_where false k ts = refl

pub tree_depth-marked_at : (k : ℕ) (ts : Trees) → tree_depth (marked_at k ts) ≡ trees_depth ts + 1
tree_depth-marked_at k ts = depth_where (is_context_at ts k) k ts

nodes_where : (b : Bool) (k : ℕ) (ts : Trees) → tree_nodes (if b then list (Some k) ts else list_of ts) ≡ trees_nodes ts + 1
nodes_where true k ts = refl
nodes_where false k ts = refl

pub tree_nodes-marked_at : (k : ℕ) (ts : Trees) → tree_nodes (marked_at k ts) ≡ trees_nodes ts + 1
tree_nodes-marked_at k ts = nodes_where (is_context_at ts k) k ts

holes_where : (b : Bool) (k : ℕ) (ts : Trees) → tree_holes (if b then list (Some k) ts else list_of ts) ≡ trees_holes ts
holes_where true k ts = refl
holes_where false k ts = refl

pub tree_holes-marked_at : (k : ℕ) (ts : Trees) → tree_holes (marked_at k ts) ≡ trees_holes ts
tree_holes-marked_at k ts = holes_where (is_context_at ts k) k ts

-- ---- of a filled context

-- its depth
mutual
  pub tree_depth-fill_of : (c t : Tree) → IsTrue (is_context c) → tree_depth (fill_of c t) ≡ max (tree_depth c) (length (path c) + tree_depth t)
  tree_depth-fill_of hole t h = omega arith
  tree_depth-fill_of (integer n) t h = absurd (true≢false (sym h))
  tree_depth-fill_of (truth b) t h = absurd (true≢false (sym h))
  tree_depth-fill_of (text s) t h = absurd (true≢false (sym h))
  tree_depth-fill_of (symbol s) t h = absurd (true≢false (sym h))
  tree_depth-fill_of (list None ts) t h = absurd (true≢false (sym h))
  tree_depth-fill_of (list (Some k) ts) t h = omega (arith, tree_depth-marked_at k (fill_at ts k t), trees_depth-fill_at ts k t h)

  pub trees_depth-fill_at : (ts : Trees) (k : ℕ) (t : Tree) → IsTrue (is_context_at ts k)
      → trees_depth (fill_at ts k t) ≡ max (trees_depth ts) (length (path_at ts k) + tree_depth t)
  trees_depth-fill_at nil k t h = absurd (true≢false (sym h))
  trees_depth-fill_at (cons u ts) zero t h = omega (arith, tree_depth-fill_of u t h)
  trees_depth-fill_at (cons u ts) (suc k) t h = omega (arith, trees_depth-fill_at ts k t h)

-- its nodes
mutual
  pub tree_nodes-fill_of : (c t : Tree) → IsTrue (is_context c) → tree_nodes (fill_of c t) + 1 ≡ tree_nodes c + tree_nodes t
  tree_nodes-fill_of hole t h = omega arith
  tree_nodes-fill_of (integer n) t h = absurd (true≢false (sym h))
  tree_nodes-fill_of (truth b) t h = absurd (true≢false (sym h))
  tree_nodes-fill_of (text s) t h = absurd (true≢false (sym h))
  tree_nodes-fill_of (symbol s) t h = absurd (true≢false (sym h))
  tree_nodes-fill_of (list None ts) t h = absurd (true≢false (sym h))
  tree_nodes-fill_of (list (Some k) ts) t h = omega (arith, tree_nodes-marked_at k (fill_at ts k t), trees_nodes-fill_at ts k t h)

  pub trees_nodes-fill_at : (ts : Trees) (k : ℕ) (t : Tree) → IsTrue (is_context_at ts k) → trees_nodes (fill_at ts k t) + 1 ≡ trees_nodes ts + tree_nodes t
  trees_nodes-fill_at nil k t h = absurd (true≢false (sym h))
  trees_nodes-fill_at (cons u ts) zero t h = omega (arith, tree_nodes-fill_of u t h)
  trees_nodes-fill_at (cons u ts) (suc k) t h = omega (arith, trees_nodes-fill_at ts k t h)

-- its holes
mutual
  pub tree_holes-fill_of : (c t : Tree) → IsTrue (is_context c) → tree_holes (fill_of c t) + 1 ≡ tree_holes c + tree_holes t
  tree_holes-fill_of hole t h = omega arith
  tree_holes-fill_of (integer n) t h = absurd (true≢false (sym h))
  tree_holes-fill_of (truth b) t h = absurd (true≢false (sym h))
  tree_holes-fill_of (text s) t h = absurd (true≢false (sym h))
  tree_holes-fill_of (symbol s) t h = absurd (true≢false (sym h))
  tree_holes-fill_of (list None ts) t h = absurd (true≢false (sym h))
  tree_holes-fill_of (list (Some k) ts) t h = omega (arith, tree_holes-marked_at k (fill_at ts k t), trees_holes-fill_at ts k t h)

  pub trees_holes-fill_at : (ts : Trees) (k : ℕ) (t : Tree) → IsTrue (is_context_at ts k) → trees_holes (fill_at ts k t) + 1 ≡ trees_holes ts + tree_holes t
  trees_holes-fill_at nil k t h = absurd (true≢false (sym h))
  trees_holes-fill_at (cons u ts) zero t h = omega (arith, tree_holes-fill_of u t h)
  trees_holes-fill_at (cons u ts) (suc k) t h = omega (arith, trees_holes-fill_at ts k t h)

-- ---- paths

-- a path is at most as long as the tree is deep
mutual
  pub path_le-depth : (t : Tree) → length (path t) ≤ tree_depth t
  path_le-depth hole = omega arith
  path_le-depth (integer n) = omega arith
  path_le-depth (truth b) = omega arith
  path_le-depth (text s) = omega arith
  path_le-depth (symbol s) = omega arith
  path_le-depth (list None ts) = omega arith
  path_le-depth (list (Some k) ts) = omega (arith, path_at_le-depth ts k)

  pub path_at_le-depth : (ts : Trees) (k : ℕ) → length (path_at ts k) ≤ trees_depth ts
  path_at_le-depth nil k = omega arith
  path_at_le-depth (cons t ts) zero = omega (arith, path_le-depth t)
  path_at_le-depth (cons t ts) (suc k) = omega (arith, path_at_le-depth ts k)

-- ---- the limits

-- what is equal to what is within the limits is so too
pub limits_of : (t u : Tree) → t ≡ u → KeepsLimits u → KeepsLimits t
limits_of t u e v = subst KeepsLimits (sym e) v

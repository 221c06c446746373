-- The items of a list of trees, by their places: which are contexts, how many nodes and how deep they are, and how they are filled.
use Rattle.std.proofs.Common.{◌≡◌, ℕ, zero, suc, ◌<◌, ◌≤◌, IsTrue, Some, None, List, [], ◌∷◌, length, map, get_or, refl, sym, ◌∙◌, ap, arith}
use Rattle.std.proofs.Math.ListN.{set}
use mathlib.Core.Bool.{true≢false}
use Rattle.rdx_term.specs.Tree.{Tree, list, Trees, cons, trees, tree_depth, trees_depth, tree_nodes, trees_nodes}
use Rattle.rdx_term.specs.Context.{is_context, is_context_at}
use Rattle.rdx_term.specs.Fill.{fill_of, fill_at}
use Rattle.rdx_term.specs.Path.{path, path_at}
use Rattle.rdx_term.specs.Bare.{bare, bare_all}
use Rattle.rdx_term.proofs.Bare.{bare_all-set}
use Rattle.rdx_term.proofs.Marks.{bare-marked_at}

-- where a context stands there is an item
pub is_context_at-place : (ts : List Tree) (k : ℕ) → IsTrue (is_context_at (trees ts) k) → k < length ts
is_context_at-place [] k h = absurd (true≢false (sym h))
is_context_at-place (t ∷ ts) zero h = omega arith
is_context_at-place (t ∷ ts) (suc k) h = let later : k < length ts = is_context_at-place ts k h in omega arith

-- a context stands at the place of an item where the item is a context
pub is_context_at-item : (ts : List Tree) (k : ℕ) (d : Tree) → k < length ts → is_context_at (trees ts) k ≡ is_context (get_or ts k d)
is_context_at-item [] k d h = absurd (omega arith)
is_context_at-item (t ∷ ts) zero d h = refl
is_context_at-item (t ∷ ts) (suc k) d h = is_context_at-item ts k d (omega arith)

-- the item that replaces another stands at its place
pub is_context_at-set : (ts : List Tree) (k : ℕ) (u : Tree) → k < length ts → is_context_at (trees (set ts k u)) k ≡ is_context u
is_context_at-set [] k u h = absurd (omega arith)
is_context_at-set (t ∷ ts) zero u h = refl
is_context_at-set (t ∷ ts) (suc k) u h = is_context_at-set ts k u (omega arith)

-- a list in which an item is replaced by one of at most as many nodes has at most as many nodes
pub trees_nodes_le-set : (ts : List Tree) (k : ℕ) (u d : Tree) → tree_nodes u ≤ tree_nodes (get_or ts k d) → trees_nodes (trees (set ts k u)) ≤ trees_nodes (trees ts)
trees_nodes_le-set [] k u d h = omega arith
trees_nodes_le-set (t ∷ ts) zero u d h = omega arith
trees_nodes_le-set (t ∷ ts) (suc k) u d h = omega (arith, trees_nodes_le-set ts k u d h)

-- and one that is replaced by one at most as deep is at most as deep
pub trees_depth_le-set : (ts : List Tree) (k : ℕ) (u d : Tree) → tree_depth u ≤ tree_depth (get_or ts k d) → trees_depth (trees (set ts k u)) ≤ trees_depth (trees ts)
trees_depth_le-set [] k u d h = omega arith
trees_depth_le-set (t ∷ ts) zero u d h = omega arith
trees_depth_le-set (t ∷ ts) (suc k) u d h = omega (arith, trees_depth_le-set ts k u d h)

-- ---- filling by places

-- the item that replaces another is filled in its place
pub fill_at-set : (ts : List Tree) (k : ℕ) (u t : Tree) → k < length ts → fill_at (trees (set ts k u)) k t ≡ trees (set ts k (fill_of u t))
fill_at-set [] k u t h = absurd (omega arith)
fill_at-set (w ∷ ts) zero u t h = refl
fill_at-set (w ∷ ts) (suc k) u t h = ap (cons w) (fill_at-set ts k u t (omega arith))

-- and its path is the path at the place
pub path_at-set : (ts : List Tree) (k : ℕ) (u : Tree) → k < length ts → path_at (trees (set ts k u)) k ≡ path u
path_at-set [] k u h = absurd (omega arith)
path_at-set (w ∷ ts) zero u h = refl
path_at-set (w ∷ ts) (suc k) u h = path_at-set ts k u (omega arith)

-- a list whose item is a filled context but for marks is a filled context but for marks
pub bare-set : (ts : List Tree) (k : ℕ) (c t u : Tree) → k < length ts → bare (fill_of c t) ≡ bare u
    → bare (fill_of (list (Some k) (trees (set ts k c))) t) ≡ bare (list None (trees (set ts k u)))
bare-set ts k c t u h e =
    bare-marked_at k (fill_at (trees (set ts k c)) k t) ∙ ap (λ (us : Trees). list None (bare_all us)) (fill_at-set ts k c t h)
    ∙ ap (list None) (bare_all-set ts k (fill_of c t) ∙ ap (λ (w : Tree). trees (set (map bare ts) k w)) e ∙ sym (bare_all-set ts k u))

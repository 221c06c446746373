-- Filling by the places of the terms in a list.
use Rattle.std.specs.Prelude.{◌≡◌, ℕ, zero, suc, ◌<◌, ◌≤◌, ◌+◌, ◌∷◌, true, false, IsTrue, List, [], Some, length, map}
use Rattle.std.proofs.Common.{get_or, refl, sym, ◌∙◌, ap, arith}
use Rattle.std.proofs.Math.ListN.{set}
use Rattle.rdx_term.specs.Tree.{Tree, list, cons, trees, Contents, contents_tree, tree_depth, trees_depth, tree_nodes, trees_nodes}
use Rattle.rdx_term.specs.Context.{is_context, is_context_at}
use Rattle.rdx_term.specs.Terms.{IsTerm}
use Rattle.rdx_term.specs.declared.term.Term.{Term}
use Rattle.rdx_term.specs.View.{tree_of, trees_of}
use Rattle.rdx_term.specs.Fill.{marked_at, fill_of, fill_at}
use Rattle.rdx_term.specs.Path.{path, path_at}
use Rattle.rdx_term.specs.Limits.{KeepsLimits}
use Rattle.std.proofs.lemmas.List.{map-set}
use Rattle.rdx_term.specs.Building.{list_of}
use Rattle.rdx_term.proofs.Contexts.{marked_at-context, marked_at-none}
use Rattle.rdx_term.proofs.Measures.{tree_depth-marked_at, tree_nodes-marked_at, path_le-depth, limits_of}

-- the term that replaces another stands at its place
pub is_context_at-set_term : (xs : List Term) (k : ℕ) (x : Term) → k < length xs → is_context_at (trees_of (set xs k x)) k ≡ is_context (tree_of x)
is_context_at-set_term [] k x h = absurd (omega arith)
is_context_at-set_term (y ∷ xs) zero x h = refl
is_context_at-set_term (y ∷ xs) (suc k) x h = is_context_at-set_term xs k x (omega arith)

-- where an item is a context, one stands at its place
pub context_stands_at : (xs : List Term) (k : ℕ) (d : Term) → k < length xs → is_context_at (trees_of xs) k ≡ is_context (tree_of (get_or xs k d))
context_stands_at [] k d h = absurd (omega arith)
context_stands_at (y ∷ xs) zero d h = refl
context_stands_at (y ∷ xs) (suc k) d h = context_stands_at xs k d (omega arith)

-- the list marked at an item that is a context, or built of items of which that one is none
pub marked_where_context : (xs : List Term) (k : ℕ) (d : Term) → k < length xs → is_context (tree_of (get_or xs k d)) ≡ true → marked_at k (trees_of xs) ≡ list (Some k) (trees_of xs)
marked_where_context xs k d h c = marked_at-context k (trees_of xs) (context_stands_at xs k d h ∙ c)

pub marked_where_none : (xs : List Term) (k : ℕ) (d : Term) → k < length xs → is_context (tree_of (get_or xs k d)) ≡ false → marked_at k (trees_of xs) ≡ list_of (trees_of xs)
marked_where_none xs k d h c = marked_at-none k (trees_of xs) (context_stands_at xs k d h ∙ c)

pub ruleset marked_places = (context_stands_at, marked_where_context, marked_where_none)

-- the same item put into the same items
pub set-same_items : (xs ys : List Term) (k : ℕ) (x : Term) → map tree_of xs ≡ map tree_of ys → trees_of (set xs k x) ≡ trees_of (set ys k x)
set-same_items xs ys k x e = ap trees (map-set tree_of xs k x ∙ ap (λ (ts : List Tree). set ts k (tree_of x)) e ∙ sym (map-set tree_of ys k x))

set-same_item : (xs : List Term) (k : ℕ) (x y : Term) → tree_of x ≡ tree_of y → trees_of (set xs k x) ≡ trees_of (set xs k y)
set-same_item xs k x y e = ap trees (map-set tree_of xs k x ∙ ap (set (map tree_of xs) k) e ∙ sym (map-set tree_of xs k y))

-- a context put in place of an item has the mark
pub set-context : (xs : List Term) (k : ℕ) (x y : Term) → k < length xs → IsTrue (is_context (tree_of y)) → tree_of x ≡ tree_of y
    → marked_at k (trees_of (set xs k x)) ≡ list (Some k) (trees_of (set xs k y))
set-context xs k x y h c e =
    ap (marked_at k) (set-same_item xs k x y e) ∙ marked_at-context k (trees_of (set xs k y)) (is_context_at-set_term xs k y h ∙ c)

filled_items : (xs : List Term) (k : ℕ) (d x : Term) (t : Tree) → k < length xs → tree_of x ≡ fill_of (tree_of (get_or xs k d)) t → trees_of (set xs k x) ≡ fill_at (trees_of xs) k t
filled_items [] k d x t h e = absurd (omega arith)
filled_items (y ∷ xs) zero d x t h e = ap (λ (u : Tree). cons u (trees_of xs)) e
filled_items (y ∷ xs) (suc k) d x t h e = ap (cons (tree_of y)) (filled_items xs k d x t (omega arith) e)

filled_item_depth : (xs : List Term) (k : ℕ) (d : Term) (t : Tree) → k < length xs → tree_depth (fill_of (tree_of (get_or xs k d)) t) ≤ trees_depth (fill_at (trees_of xs) k t)
filled_item_depth [] k d t h = absurd (omega arith)
filled_item_depth (y ∷ xs) zero d t h = omega arith
filled_item_depth (y ∷ xs) (suc k) d t h =
    let later : tree_depth (fill_of (tree_of (get_or xs k d)) t) ≤ trees_depth (fill_at (trees_of xs) k t) = filled_item_depth xs k d t (omega arith) in
    omega arith

filled_item_nodes : (xs : List Term) (k : ℕ) (d : Term) (t : Tree) → k < length xs → tree_nodes (fill_of (tree_of (get_or xs k d)) t) ≤ trees_nodes (fill_at (trees_of xs) k t)
filled_item_nodes [] k d t h = absurd (omega arith)
filled_item_nodes (y ∷ xs) zero d t h = omega arith
filled_item_nodes (y ∷ xs) (suc k) d t h =
    let later : tree_nodes (fill_of (tree_of (get_or xs k d)) t) ≤ trees_nodes (fill_at (trees_of xs) k t) = filled_item_nodes xs k d t (omega arith) in
    omega arith

item_path : (xs : List Term) (k : ℕ) (d : Term) → k < length xs → path_at (trees_of xs) k ≡ path (tree_of (get_or xs k d))
item_path [] k d h = absurd (omega arith)
item_path (y ∷ xs) zero d h = refl
item_path (y ∷ xs) (suc k) d h = item_path xs k d (omega arith)

-- ---- a list with a mark, and its items as the code reads them

contents_is : (l : Contents) (xs : List Term) (k : ℕ) → map tree_of xs ≡ l.items → l.mark ≡ Some k → contents_tree l ≡ list (Some k) (trees_of xs)
contents_is l xs k e m = λ i. list (m i) (trees (sym e i))

fill_is : (l : Contents) (xs : List Term) (k : ℕ) (t : Tree) → map tree_of xs ≡ l.items → l.mark ≡ Some k → fill_of (contents_tree l) t ≡ marked_at k (fill_at (trees_of xs) k t)
fill_is l xs k t e m = ap (λ (c : Tree). fill_of c t) (contents_is l xs k e m)

-- its path begins with the mark, and goes on in the marked item
pub path-item : (l : Contents) (xs : List Term) (k : ℕ) (d : Term) → map tree_of xs ≡ l.items → l.mark ≡ Some k → k < length xs
    → path (contents_tree l) ≡ k ∷ path (tree_of (get_or xs k d))
path-item l xs k d e m h = ap path (contents_is l xs k e m) ∙ ap (λ (ks : List ℕ). k ∷ ks) (item_path xs k d h)

-- so the path in that item is shorter than 500
pub path-item_short : (l : Contents) (xs : List Term) (k : ℕ) (d : Term) → map tree_of xs ≡ l.items → l.mark ≡ Some k → k < length xs → IsTerm (contents_tree l)
    → length (path (tree_of (get_or xs k d))) + 1 ≤ 500
path-item_short l xs k d e m h v =
    let is_longer : length (path (contents_tree l)) ≡ length (k ∷ path (tree_of (get_or xs k d))) = ap length (path-item l xs k d e m h) in
    let shallow = v.shallow in
    omega (arith, path_le-depth (contents_tree l))

-- filled, it is the list with that item filled
pub filled_item-is : (l : Contents) (xs : List Term) (k : ℕ) (d x : Term) (t : Tree) → map tree_of xs ≡ l.items → l.mark ≡ Some k → k < length xs
    → tree_of x ≡ fill_of (tree_of (get_or xs k d)) t → marked_at k (trees_of (set xs k x)) ≡ fill_of (contents_tree l) t
filled_item-is l xs k d x t e m h f = ap (marked_at k) (filled_items xs k d x t h f) ∙ sym (fill_is l xs k t e m)

-- so that item filled is within the limits
pub filled_item-limits : (l : Contents) (xs : List Term) (k : ℕ) (d : Term) (t : Tree) → map tree_of xs ≡ l.items → l.mark ≡ Some k → k < length xs
    → KeepsLimits (fill_of (contents_tree l) t) → KeepsLimits (fill_of (tree_of (get_or xs k d)) t)
filled_item-limits l xs k d t e m h v =
    let depth_is : tree_depth (fill_of (contents_tree l) t) ≡ trees_depth (fill_at (trees_of xs) k t) + 1 = ap tree_depth (fill_is l xs k t e m) ∙ tree_depth-marked_at k (fill_at (trees_of xs) k t) in
    let nodes_are : tree_nodes (fill_of (contents_tree l) t) ≡ trees_nodes (fill_at (trees_of xs) k t) + 1 = ap tree_nodes (fill_is l xs k t e m) ∙ tree_nodes-marked_at k (fill_at (trees_of xs) k t) in
    let shallow = v.shallow in
    let small = v.small in
    record { shallow = omega (arith, filled_item_depth xs k d t h); small = omega (arith, filled_item_nodes xs k d t h) }

-- and so is the list with it in its place
pub filled_list-limits : (l : Contents) (xs : List Term) (k : ℕ) (d x : Term) (t : Tree) → map tree_of xs ≡ l.items → l.mark ≡ Some k → k < length xs
    → tree_of x ≡ fill_of (tree_of (get_or xs k d)) t → KeepsLimits (fill_of (contents_tree l) t) → KeepsLimits (marked_at k (trees_of (set xs k x)))
filled_list-limits l xs k d x t e m h f v = limits_of (marked_at k (trees_of (set xs k x))) (fill_of (contents_tree l) t) (filled_item-is l xs k d x t e m h f) v

-- What stands in a tree where a path leads, and the context around it.
use Rattle.std.proofs.Common.{◌≡◌, ℕ, ◌+◌, ◌<◌, ◌≤◌, max, IsTrue, Option, Some, None, List, [], ◌∷◌, ◌++◌, length, refl, sym, ◌∙◌, ap, subst, arith}
use Rattle.rdx_term.specs.Tree.{Tree, hole, integer, truth, text, symbol, list, Trees, tree_depth, tree_nodes, tree_holes}
use Rattle.rdx_term.specs.Context.{is_context, is_context_at, IsMarked, AreMarked}
use Rattle.rdx_term.specs.Terms.{IsSpelled, AreSpelled, IsTerm}
use Rattle.rdx_term.specs.Limits.{KeepsLimits}
use Rattle.rdx_term.specs.Fill.{marked_at, fill_of}
use Rattle.rdx_term.specs.Path.{path}
use Rattle.rdx_term.specs.Bare.{bare, bare_all}
use Rattle.rdx_term.specs.Items.{tree_items, trees_count, item_at, put_at}
use Rattle.rdx_term.specs.AtPaths.{IsPlace, tree_at, context_at}
use Rattle.rdx_term.proofs.Bare.{tree_depth-same_bare, tree_nodes-same_bare, tree_holes-same_bare}
use Rattle.rdx_term.proofs.Contexts.{marked_at-context}
use Rattle.rdx_term.proofs.Marks.{bare-marked_at, bare-fill_of}
use Rattle.rdx_term.proofs.Measures.{tree_depth-fill_of, tree_nodes-fill_of, tree_holes-fill_of}
use Rattle.rdx_term.proofs.PutItems.{item_at-other, item_at_le-nodes, IsMarked-item_at, IsSpelled-item_at, is_context_at-put, path_at-put, fill_at-put, bare_all-put_same, AreMarked-put, AreSpelled-put}

-- ---- the first step, at a list: it goes to the item in that place, whatever stands for one that there is not

-- where a path leads to something in an item, so does the path that goes to that item first
pub IsPlace-item : (m : Option ℕ) (ts : Trees) (k : ℕ) (ks : List ℕ) (d : Tree) → k < trees_count ts → IsPlace (item_at ts k d) ks → IsPlace (list m ts) (k ∷ ks)
IsPlace-item m ts k ks d h i = (h, subst (λ (u : Tree). IsPlace u ks) (item_at-other ts k d (list m ts) h) i)

-- and the other way
pub IsPlace-in_item : (m : Option ℕ) (ts : Trees) (k : ℕ) (ks : List ℕ) (d : Tree) → IsPlace (list m ts) (k ∷ ks) → IsPlace (item_at ts k d) ks
IsPlace-in_item m ts k ks d h = subst (λ (u : Tree). IsPlace u ks) (item_at-other ts k (list m ts) d h.0) h.1

-- what stands there is what stands in the item
pub tree_at-item : (m : Option ℕ) (ts : Trees) (k : ℕ) (ks : List ℕ) (d : Tree) → k < trees_count ts → tree_at (list m ts) (k ∷ ks) ≡ tree_at (item_at ts k d) ks
tree_at-item m ts k ks d h = ap (λ (u : Tree). tree_at u ks) (item_at-other ts k (list m ts) d h)

-- and the context is the list with that of the item in its place
pub context_at-item : (m : Option ℕ) (ts : Trees) (k : ℕ) (ks : List ℕ) (d : Tree) → k < trees_count ts
    → context_at (list m ts) (k ∷ ks) ≡ list (Some k) (put_at ts k (context_at (item_at ts k d) ks))
context_at-item m ts k ks d h = ap (λ (u : Tree). list (Some k) (put_at ts k (context_at u ks))) (item_at-other ts k (list m ts) d h)

-- ---- contexts and their paths

-- the tree with the hole where the path leads is a context
pub is_context-context_at : (t : Tree) (ks : List ℕ) → IsPlace t ks → IsTrue (is_context (context_at t ks))
is_context-context_at t [] h = refl
is_context-context_at t (k ∷ ks) h =
    is_context_at-put (tree_items t) k (context_at (item_at (tree_items t) k t) ks) h.0 ∙ is_context-context_at (item_at (tree_items t) k t) ks h.1

-- its path is that path
pub path-context_at : (t : Tree) (ks : List ℕ) → IsPlace t ks → path (context_at t ks) ≡ ks
path-context_at t [] h = refl
path-context_at t (k ∷ ks) h =
    ap (λ (js : List ℕ). k ∷ js) (path_at-put (tree_items t) k (context_at (item_at (tree_items t) k t) ks) h.0 ∙ path-context_at (item_at (tree_items t) k t) ks h.1)

-- filled in its place, an item that was put there is put there filled
refill : (ts : Trees) (k : ℕ) (c u : Tree) → fill_of (list (Some k) (put_at ts k c)) u ≡ marked_at k (put_at ts k (fill_of c u))
refill ts k c u = ap (marked_at k) (fill_at-put ts k c u)

-- where there is an item, the tree is the list of its items but for marks
bare-items : (t : Tree) (k : ℕ) → k < trees_count (tree_items t) → list None (bare_all (tree_items t)) ≡ bare t
bare-items hole k h = absurd (omega arith)
bare-items (integer n) k h = absurd (omega arith)
bare-items (truth b) k h = absurd (omega arith)
bare-items (text s) k h = absurd (omega arith)
bare-items (symbol s) k h = absurd (omega arith)
bare-items (list m ts) k h = refl

-- filled with what stood there it is the tree as it was, but for marks
pub bare-refilled : (t : Tree) (ks : List ℕ) → IsPlace t ks → bare (fill_of (context_at t ks) (tree_at t ks)) ≡ bare t
bare-refilled t [] h = refl
bare-refilled t (k ∷ ks) h =
    let item : Tree = item_at (tree_items t) k t in
    let inner : Tree = context_at item ks in
    ap bare (refill (tree_items t) k inner (tree_at item ks)) ∙ bare-marked_at k (put_at (tree_items t) k (fill_of inner (tree_at item ks)))
    ∙ ap (list None) (bare_all-put_same (tree_items t) k (fill_of inner (tree_at item ks)) t (bare-refilled item ks h.1)) ∙ bare-items t k h.0

-- so it is with what is equal to it but for marks
pub bare-refilled_same : (t : Tree) (ks : List ℕ) (u : Tree) → IsPlace t ks → bare u ≡ bare (tree_at t ks) → bare (fill_of (context_at t ks) u) ≡ bare t
bare-refilled_same t ks u h e = bare-fill_of (context_at t ks) u (tree_at t ks) e ∙ bare-refilled t ks h

-- ---- one path behind another

-- what stands where both lead is what stands, from where the first leads, where the second leads
pub tree_at-++ : (t : Tree) (ks ls : List ℕ) → tree_at t (ks ++ ls) ≡ tree_at (tree_at t ks) ls
tree_at-++ t [] ls = refl
tree_at-++ t (k ∷ ks) ls = tree_at-++ (item_at (tree_items t) k t) ks ls

-- where both lead to something, so do they together
pub IsPlace-++ : (t : Tree) (ks ls : List ℕ) → IsPlace t ks → IsPlace (tree_at t ks) ls → IsPlace t (ks ++ ls)
IsPlace-++ t [] ls h i = i
IsPlace-++ t (k ∷ ks) ls h i = (h.0, IsPlace-++ (item_at (tree_items t) k t) ks ls h.1 i)

-- and where they do together, so does the first
pub IsPlace-first : (t : Tree) (ks ls : List ℕ) → IsPlace t (ks ++ ls) → IsPlace t ks
IsPlace-first t [] ls h = tt
IsPlace-first t (k ∷ ks) ls h = (h.0, IsPlace-first (item_at (tree_items t) k t) ks ls h.1)

-- and the second from there
pub IsPlace-second : (t : Tree) (ks ls : List ℕ) → IsPlace t (ks ++ ls) → IsPlace (tree_at t ks) ls
IsPlace-second t [] ls h = h
IsPlace-second t (k ∷ ks) ls h = IsPlace-second (item_at (tree_items t) k t) ks ls h.1

-- the first context filled with the second, from there, is the context of both
pub fill_of-context_at : (t : Tree) (ks ls : List ℕ) → IsPlace t ks → IsPlace (tree_at t ks) ls
    → fill_of (context_at t ks) (context_at (tree_at t ks) ls) ≡ context_at t (ks ++ ls)
fill_of-context_at t [] ls h i = refl
fill_of-context_at t (k ∷ ks) ls h i =
    let item : Tree = item_at (tree_items t) k t in
    let is_context_there : IsTrue (is_context_at (put_at (tree_items t) k (context_at item (ks ++ ls))) k) =
    is_context_at-put (tree_items t) k (context_at item (ks ++ ls)) h.0 ∙ is_context-context_at item (ks ++ ls) (IsPlace-++ item ks ls h.1 i) in
    refill (tree_items t) k (context_at item ks) (context_at (tree_at item ks) ls)
    ∙ ap (λ (c : Tree). marked_at k (put_at (tree_items t) k c)) (fill_of-context_at item ks ls h.1 i)
    ∙ marked_at-context k (put_at (tree_items t) k (context_at item (ks ++ ls))) is_context_there

-- ---- what is counted

-- each tree has a node
pub one_le-nodes : (t : Tree) → 1 ≤ tree_nodes t
one_le-nodes hole = omega arith
one_le-nodes (integer n) = omega arith
one_le-nodes (truth b) = omega arith
one_le-nodes (text s) = omega arith
one_le-nodes (symbol s) = omega arith
one_le-nodes (list m ts) = omega arith

-- the tree is as deep as the context, or as what stands there and the path to it
pub tree_depth-at : (t : Tree) (ks : List ℕ) → IsPlace t ks → tree_depth t ≡ max (tree_depth (context_at t ks)) (length ks + tree_depth (tree_at t ks))
tree_depth-at t ks h =
    sym (tree_depth-same_bare (fill_of (context_at t ks) (tree_at t ks)) t (bare-refilled t ks h))
    ∙ tree_depth-fill_of (context_at t ks) (tree_at t ks) (is_context-context_at t ks h)
    ∙ ap (λ (js : List ℕ). max (tree_depth (context_at t ks)) (length js + tree_depth (tree_at t ks))) (path-context_at t ks h)

-- it has the nodes of both, less the hole
pub tree_nodes-at : (t : Tree) (ks : List ℕ) → IsPlace t ks → tree_nodes t + 1 ≡ tree_nodes (context_at t ks) + tree_nodes (tree_at t ks)
tree_nodes-at t ks h =
    ap (λ n. n + 1) (sym (tree_nodes-same_bare (fill_of (context_at t ks) (tree_at t ks)) t (bare-refilled t ks h)))
    ∙ tree_nodes-fill_of (context_at t ks) (tree_at t ks) (is_context-context_at t ks h)

-- and the holes of both, less that one
pub tree_holes-at : (t : Tree) (ks : List ℕ) → IsPlace t ks → tree_holes t + 1 ≡ tree_holes (context_at t ks) + tree_holes (tree_at t ks)
tree_holes-at t ks h =
    ap (λ n. n + 1) (sym (tree_holes-same_bare (fill_of (context_at t ks) (tree_at t ks)) t (bare-refilled t ks h)))
    ∙ tree_holes-fill_of (context_at t ks) (tree_at t ks) (is_context-context_at t ks h)

-- the context is at most as deep as the tree
pub context_at_le-depth : (t : Tree) (ks : List ℕ) → IsPlace t ks → tree_depth (context_at t ks) ≤ tree_depth t
context_at_le-depth t ks h = omega (arith, tree_depth-at t ks h)

-- and has at most as many nodes
pub context_at_le-nodes : (t : Tree) (ks : List ℕ) → IsPlace t ks → tree_nodes (context_at t ks) ≤ tree_nodes t
context_at_le-nodes t ks h = omega (arith, tree_nodes-at t ks h, one_le-nodes (tree_at t ks))

-- what stands there is at most as deep as the tree
pub tree_at_le-depth : (t : Tree) (ks : List ℕ) → IsPlace t ks → tree_depth (tree_at t ks) ≤ tree_depth t
tree_at_le-depth t ks h = omega (arith, tree_depth-at t ks h)

-- and has at most as many nodes
pub tree_at_le-nodes : (t : Tree) (ks : List ℕ) → IsPlace t ks → tree_nodes (tree_at t ks) ≤ tree_nodes t
tree_at_le-nodes t ks h = omega (arith, tree_nodes-at t ks h, one_le-nodes (context_at t ks))

-- the path is at most as long as the tree is deep
pub place_le-depth : (t : Tree) (ks : List ℕ) → IsPlace t ks → length ks ≤ tree_depth t
place_le-depth t ks h = omega (arith, tree_depth-at t ks h)

-- an item of a tree has fewer nodes than the tree
pub step_nodes : (t : Tree) (k : ℕ) → k < trees_count (tree_items t) → tree_nodes (item_at (tree_items t) k t) < tree_nodes t
step_nodes hole k h = absurd (omega arith)
step_nodes (integer n) k h = absurd (omega arith)
step_nodes (truth b) k h = absurd (omega arith)
step_nodes (text s) k h = absurd (omega arith)
step_nodes (symbol s) k h = absurd (omega arith)
step_nodes (list m ts) k h = omega (arith, item_at_le-nodes ts k (list m ts) h)

-- with each step of it there is at least one node less
pub place_le-nodes : (t : Tree) (ks : List ℕ) → IsPlace t ks → length ks + tree_nodes (tree_at t ks) ≤ tree_nodes t
place_le-nodes t [] h = omega arith
place_le-nodes t (k ∷ ks) h = omega (arith, step_nodes t k h.0, place_le-nodes (item_at (tree_items t) k t) ks h.1)

-- where the tree keeps the limits of terms, so does the context
pub KeepsLimits-context_at : (t : Tree) (ks : List ℕ) → IsPlace t ks → KeepsLimits t → KeepsLimits (context_at t ks)
KeepsLimits-context_at t ks h l =
    let shallow = l.shallow in
    let small = l.small in
    record { shallow = omega (arith, context_at_le-depth t ks h); small = omega (arith, context_at_le-nodes t ks h) }

-- and so does what stands there
pub KeepsLimits-tree_at : (t : Tree) (ks : List ℕ) → IsPlace t ks → KeepsLimits t → KeepsLimits (tree_at t ks)
KeepsLimits-tree_at t ks h l =
    let shallow = l.shallow in
    let small = l.small in
    record { shallow = omega (arith, tree_at_le-depth t ks h); small = omega (arith, tree_at_le-nodes t ks h) }

-- ---- terms

-- the marks of the items fit
pub items_are_marked : (t : Tree) → IsMarked t → AreMarked (tree_items t)
items_are_marked hole m = tt
items_are_marked (integer n) m = tt
items_are_marked (truth b) m = tt
items_are_marked (text s) m = tt
items_are_marked (symbol s) m = tt
items_are_marked (list n ts) m = m.1

-- the items are well spelled
pub items_are_spelled : (t : Tree) → IsSpelled t → AreSpelled (tree_items t)
items_are_spelled hole s = tt
items_are_spelled (integer n) s = tt
items_are_spelled (truth b) s = tt
items_are_spelled (text x) s = tt
items_are_spelled (symbol x) s = tt
items_are_spelled (list n ts) s = s

-- the marks of what stands there fit where those of the tree do
pub IsMarked-tree_at : (t : Tree) (ks : List ℕ) → IsMarked t → IsMarked (tree_at t ks)
IsMarked-tree_at t [] m = m
IsMarked-tree_at t (k ∷ ks) m = IsMarked-tree_at (item_at (tree_items t) k t) ks (IsMarked-item_at (tree_items t) k t (items_are_marked t m) m)

-- so do those of the context
pub IsMarked-context_at : (t : Tree) (ks : List ℕ) → IsPlace t ks → IsMarked t → IsMarked (context_at t ks)
IsMarked-context_at t [] h m = tt
IsMarked-context_at t (k ∷ ks) h m =
    let inner : IsMarked (context_at (item_at (tree_items t) k t) ks) =
    IsMarked-context_at (item_at (tree_items t) k t) ks h.1 (IsMarked-item_at (tree_items t) k t (items_are_marked t m) m) in
    (is_context-context_at t (k ∷ ks) h, AreMarked-put (tree_items t) k (context_at (item_at (tree_items t) k t) ks) (items_are_marked t m) inner)

-- what stands there is well spelled where the tree is
pub IsSpelled-tree_at : (t : Tree) (ks : List ℕ) → IsSpelled t → IsSpelled (tree_at t ks)
IsSpelled-tree_at t [] s = s
IsSpelled-tree_at t (k ∷ ks) s = IsSpelled-tree_at (item_at (tree_items t) k t) ks (IsSpelled-item_at (tree_items t) k t (items_are_spelled t s) s)

-- so is the context
pub IsSpelled-context_at : (t : Tree) (ks : List ℕ) → IsSpelled t → IsSpelled (context_at t ks)
IsSpelled-context_at t [] s = tt
IsSpelled-context_at t (k ∷ ks) s =
    AreSpelled-put (tree_items t) k (context_at (item_at (tree_items t) k t) ks) (items_are_spelled t s)
    (IsSpelled-context_at (item_at (tree_items t) k t) ks (IsSpelled-item_at (tree_items t) k t (items_are_spelled t s) s))

-- what stands there is a term where the tree is one
pub IsTerm-tree_at : (t : Tree) (ks : List ℕ) → IsPlace t ks → IsTerm t → IsTerm (tree_at t ks)
IsTerm-tree_at t ks h v =
    let shallow = v.shallow in
    let small = v.small in
    record {
      marked = IsMarked-tree_at t ks v.marked;
      spelled = IsSpelled-tree_at t ks v.spelled;
      shallow = omega (arith, tree_at_le-depth t ks h);
      small = omega (arith, tree_at_le-nodes t ks h);
    }

-- and so is the context
pub IsTerm-context_at : (t : Tree) (ks : List ℕ) → IsPlace t ks → IsTerm t → IsTerm (context_at t ks)
IsTerm-context_at t ks h v =
    let shallow = v.shallow in
    let small = v.small in
    record {
      marked = IsMarked-context_at t ks h v.marked;
      spelled = IsSpelled-context_at t ks v.spelled;
      shallow = omega (arith, context_at_le-depth t ks h);
      small = omega (arith, context_at_le-nodes t ks h);
    }

-- The items of a list that is a term: that they are smaller terms, and that the marked one is a context.
use Rattle.std.specs.Prelude.{◌≡◌, ℕ, zero, suc, ◌<◌, ◌≤◌, IsTrue, List, [], ◌∷◌, Option, Some, length, map}
use Rattle.std.proofs.Common.{get_or, subst, sym, ◌∙◌, ap, arith}
use Rattle.std.proofs.Math.ListN.{get_or-map}
use Rattle.std.proofs.lemmas.List.{length-map}
use Rattle.rdx_term.specs.Tree.{Tree, list, trees, tree_depth, trees_depth, tree_nodes, trees_nodes, Contents, contents_tree}
use Rattle.rdx_term.specs.Context.{is_context, is_context_at, MarkFits, IsMarked, AreMarked}
use Rattle.rdx_term.specs.Terms.{IsSpelled, AreSpelled, IsTerm}
use Rattle.rdx_term.specs.declared.term.Term.{Term}
use Rattle.rdx_term.specs.View.{tree_of, trees_of}
use Rattle.rdx_term.proofs.Places.{is_context_at-place, is_context_at-item}

-- an item has at most the nodes of all of them
item_nodes_le-items : (xs : List Term) (k : ℕ) (d : Term) → k < length xs → tree_nodes (tree_of (get_or xs k d)) ≤ trees_nodes (trees_of xs)
item_nodes_le-items [] k d h = absurd (omega arith)
item_nodes_le-items (x ∷ xs) zero d h = omega arith
item_nodes_le-items (x ∷ xs) (suc k) d h =
    let later : tree_nodes (tree_of (get_or xs k d)) ≤ trees_nodes (trees_of xs) = item_nodes_le-items xs k d (omega arith) in
    omega arith

-- an item is at most as deep as the deepest
item_depth_le-items : (xs : List Term) (k : ℕ) (d : Term) → k < length xs → tree_depth (tree_of (get_or xs k d)) ≤ trees_depth (trees_of xs)
item_depth_le-items [] k d h = absurd (omega arith)
item_depth_le-items (x ∷ xs) zero d h = omega arith
item_depth_le-items (x ∷ xs) (suc k) d h =
    let later : tree_depth (tree_of (get_or xs k d)) ≤ trees_depth (trees_of xs) = item_depth_le-items xs k d (omega arith) in
    omega arith

-- the marks of an item fit where those of all items do
item_is_marked : (xs : List Term) (k : ℕ) (d : Term) → k < length xs → AreMarked (trees_of xs) → IsMarked (tree_of (get_or xs k d))
item_is_marked [] k d h m = absurd (omega arith)
item_is_marked (x ∷ xs) zero d h m = m.0
item_is_marked (x ∷ xs) (suc k) d h m = item_is_marked xs k d (omega arith) m.1

-- an item is spelled where all items are
item_is_spelled : (xs : List Term) (k : ℕ) (d : Term) → k < length xs → AreSpelled (trees_of xs) → IsSpelled (tree_of (get_or xs k d))
item_is_spelled [] k d h s = absurd (omega arith)
item_is_spelled (x ∷ xs) zero d h s = s.0
item_is_spelled (x ∷ xs) (suc k) d h s = item_is_spelled xs k d (omega arith) s.1

-- an item of a list has fewer nodes than the list
pub item_has_fewer_nodes : (l : Contents) (xs : List Term) (k : ℕ) (d : Term) → map tree_of xs ≡ l.items → k < length xs → tree_nodes (tree_of (get_or xs k d)) < tree_nodes (contents_tree l)
item_has_fewer_nodes l xs k d e h =
    let p : tree_nodes (tree_of (get_or xs k d)) ≤ trees_nodes (trees l.items) = subst (λ (ts : List Tree). tree_nodes (tree_of (get_or xs k d)) ≤ trees_nodes (trees ts)) e (item_nodes_le-items xs k d h) in
    omega arith

-- an item of a list that is a term is a term
pub item_is_term : (l : Contents) (xs : List Term) (k : ℕ) (d : Term) → map tree_of xs ≡ l.items → k < length xs → IsTerm (contents_tree l) → IsTerm (tree_of (get_or xs k d))
item_is_term l xs k d e h v =
    let of_items : IsTerm (list l.mark (trees_of xs)) = subst (λ (ts : List Tree). IsTerm (list l.mark (trees ts))) (sym e) v in
    record {
      marked = item_is_marked xs k d h of_items.marked.1;
      spelled = item_is_spelled xs k d h of_items.spelled;
      shallow = (let p : tree_depth (tree_of (get_or xs k d)) ≤ trees_depth (trees_of xs) = item_depth_le-items xs k d h in omega arith);
      small = (let p : tree_nodes (tree_of (get_or xs k d)) ≤ trees_nodes (trees_of xs) = item_nodes_le-items xs k d h in omega arith);
    }

-- where a list that is a term is marked, a context stands
pub mark-context_at : (l : Contents) (xs : List Term) (k : ℕ) → map tree_of xs ≡ l.items → l.mark ≡ Some k → IsTerm (contents_tree l) → IsTrue (is_context_at (trees_of xs) k)
mark-context_at l xs k e m v =
    let fits : MarkFits (Some k) (trees l.items) = subst (λ (n : Option ℕ). MarkFits n (trees l.items)) m v.marked.0 in
    subst (λ (ts : List Tree). IsTrue (is_context_at (trees ts) k)) (sym e) fits

-- so there is an item
pub mark-place : (l : Contents) (xs : List Term) (k : ℕ) → map tree_of xs ≡ l.items → l.mark ≡ Some k → IsTerm (contents_tree l) → k < length xs
mark-place l xs k e m v =
    let p : k < length (map tree_of xs) = is_context_at-place (map tree_of xs) k (mark-context_at l xs k e m v) in
    rw length-map at p

-- and it is a context
pub mark-item_context : (l : Contents) (xs : List Term) (k : ℕ) (d : Term) → map tree_of xs ≡ l.items → l.mark ≡ Some k → IsTerm (contents_tree l) → IsTrue (is_context (tree_of (get_or xs k d)))
mark-item_context l xs k d e m v =
    let p : k < length (map tree_of xs) = is_context_at-place (map tree_of xs) k (mark-context_at l xs k e m v) in
    sym (ap is_context (get_or-map tree_of xs k d)) ∙ sym (is_context_at-item (map tree_of xs) k (tree_of d) p) ∙ mark-context_at l xs k e m v

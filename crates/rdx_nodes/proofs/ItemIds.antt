-- Steps from the id of a list to that of an item.
use Rattle.std.proofs.Common.{◌≡◌, ℕ, zero, suc, ◌<◌, List, [], ◌∷◌, length, get_or, refl, sym, ◌∙◌, ap, subst, arith}
use Rattle.std.proofs.lemmas.List.{length-map}
use Rattle.rdx_term.proofs.PutItems.{trees_count-trees, item_at-trees, item_at-other}
use Rattle.rdx_term.specs.AtPaths.{IsPlace, tree_at}
use Rattle.rdx_term.specs.Items.{tree_items, trees_count, item_at}
use Rattle.rdx_term.specs.Tree.{Tree, Trees, hole, trees}
use Rattle.rdx_store.specs.Stored.{tree_by_id, trees_by_ids, AreIds}

-- each of several ids is one
id-at : (is : List ℕ) (k n : ℕ) → AreIds is n → k < length is → get_or is k 0 < n
id-at [] k n a h = absurd (omega arith)
id-at (i ∷ is) zero n a h = a.0
id-at (i ∷ is) (suc k) n a h = id-at is k n a.1 (omega arith)

-- the term with such an id
tree-at : (ts : List Tree) (is : List ℕ) (k : ℕ) → k < length is → get_or (trees_by_ids ts is) k hole ≡ tree_by_id ts (get_or is k 0)
tree-at ts [] k h = absurd (omega arith)
tree-at ts (i ∷ is) zero h = refl
tree-at ts (i ∷ is) (suc k) h = tree-at ts is k (omega arith)

-- one step along a path, from a term to the item in its first place, by ids
pub record StepsTo (ts : List Tree) (t : Tree) (is ks : List ℕ) (k : ℕ) : Type 0 where
  pub bound : k < length is
  pub id : get_or is k 0 < length ts
  pub place : IsPlace (tree_by_id ts (get_or is k 0)) ks
  pub same : tree_at t (k ∷ ks) ≡ tree_at (tree_by_id ts (get_or is k 0)) ks

-- a path that leads to something leads to it from that item
pub steps_to : (ts : List Tree) (t : Tree) (is ks : List ℕ) (k : ℕ) → AreIds is (length ts) → trees (trees_by_ids ts is) ≡ tree_items t
    → IsPlace t (k ∷ ks)
    → StepsTo ts t is ks k
steps_to ts t is ks k a e h =
    let c : trees_count (tree_items t) ≡ length is = ap trees_count (sym e) ∙ trees_count-trees (trees_by_ids ts is)
    ∙ length-map is (tree_by_id ts) in
    let b : k < length is = subst (λ n. k < n) c h.0 in
    let f : item_at (tree_items t) k t ≡ tree_by_id ts (get_or is k 0) =
    item_at-other (tree_items t) k t hole h.0 ∙ ap (λ (us : Trees). item_at us k hole) (sym e) ∙ item_at-trees (trees_by_ids ts is) k hole
    ∙ tree-at ts is k b in
    record {
      bound = b;
      id = id-at is k (length ts) a b;
      place = subst (λ (u : Tree). IsPlace u ks) f h.1;
      same = ap (λ (u : Tree). tree_at u ks) f;
    }

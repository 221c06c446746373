-- The shapes that give a tree: there is one, it stays one in a store with more terms, and its ids are those of the items.
use Rattle.std.proofs.Common.{◌≡◌, ℕ, zero, suc, ◌<◌, List, [], ◌∷◌, ◌++◌, Some, length, map, get_or, slice_get}
use Rattle.std.proofs.Common.{refl, sym, ◌∙◌, ap, subst, arith}
use Rattle.rdx_term.specs.Items.{tree_items}
use Rattle.rdx_term.specs.Tree.{Tree, list, trees}
use Rattle.rdx_term.specs.View.{tree_of}
use Rattle.rdx_term.specs.declared.term.Term.{Term}
use Rattle.rdx_store.proofs.Extending.{extends-length, ids-more, trees_by_ids-extends}
use Rattle.rdx_store.proofs.Ids.{one_ids}
use Rattle.rdx_store.specs.Model.Entries.{tree_by, IsShapeOf, entry_trees, AreDescribed, AreEntries}
use Rattle.rdx_store.specs.Model.KeyView.{shape_of}
use Rattle.rdx_store.specs.Model.Shapes.{Shape, hole_shape, integer_shape, truth_shape, text_shape, symbol_shape, list_shape, ids_in}
use Rattle.rdx_store.specs.Stored.{tree_by_id, trees_by_ids, AreIds, AreDistinct, Extends}
use Rattle.rdx_store.specs.declared.key.Key.{Key}

-- ---- more terms

-- a shape gives the same tree
pub tree_by-extends : {ts us : List Tree} (s : Shape) → Extends ts us → AreIds (ids_in s) (length ts) → tree_by us s ≡ tree_by ts s
tree_by-extends hole_shape a h = refl
tree_by-extends (integer_shape n) a h = refl
tree_by-extends (truth_shape b) a h = refl
tree_by-extends (text_shape s) a h = refl
tree_by-extends (symbol_shape s) a h = refl
tree_by-extends (list_shape m is) a h = ap (λ xs. list m (trees xs)) (trees_by_ids-extends is a h)

-- so a tree keeps its shape
pub shape-extends : {ts us : List Tree} (s : Shape) (t : Tree) → Extends ts us → IsShapeOf ts s t → IsShapeOf us s t
shape-extends {ts} {us} s t a h =
    record { ids = ids-more (ids_in s) (length ts) (length us) (extends-length a) h.ids; tree = tree_by-extends s a h.ids ∙ h.tree }

-- so do entries
pub described-extends : {ts us : List Tree} (es : List (Key × Term)) → Extends ts us → AreDescribed ts es → AreDescribed us es
described-extends [] a d = tt
described-extends (e ∷ es) a d = (shape-extends (shape_of e.0) (tree_of e.1) a d.0, described-extends es a d.1)

-- one entry more
pub described-push : (ts : List Tree) (es : List (Key × Term)) (e : Key × Term)
    → AreDescribed ts es → IsShapeOf ts (shape_of e.0) (tree_of e.1) → AreDescribed ts (es ++ e ∷ [])
described-push ts [] e d h = (h, tt)
described-push ts (f ∷ es) e d h = (d.0, described-push ts es e d.1 h)

-- ---- one shape

-- shapes that give one tree are equal
same_tree-same_shape : (ts : List Tree) (s r : Shape)
    → AreDistinct ts → AreIds (ids_in s) (length ts) → AreIds (ids_in r) (length ts) → tree_by ts s ≡ tree_by ts r → s ≡ r
same_tree-same_shape ts hole_shape hole_shape d a b e = refl
same_tree-same_shape ts (integer_shape n) (integer_shape k) d a b e = let f : n ≡ k = cc in ap integer_shape f
same_tree-same_shape ts (truth_shape x) (truth_shape y) d a b e = let f : x ≡ y = cc in ap truth_shape f
same_tree-same_shape ts (text_shape x) (text_shape y) d a b e = let f : x ≡ y = cc in ap text_shape f
same_tree-same_shape ts (symbol_shape x) (symbol_shape y) d a b e = let f : x ≡ y = cc in ap symbol_shape f
same_tree-same_shape ts (list_shape m is) (list_shape n js) d a b e =
    let f : m ≡ n = cc in
    let g : trees (trees_by_ids ts is) ≡ trees (trees_by_ids ts js) = cc in
    λ k. list_shape (f k) (one_ids ts d is js a b g k)
same_tree-same_shape ts s r d a b e = cc

-- a tree has one shape
pub one_shape : (ts : List Tree) (t : Tree) (s r : Shape) → AreDistinct ts → IsShapeOf ts s t → IsShapeOf ts r t → s ≡ r
one_shape ts t s r d a b = same_tree-same_shape ts s r d a.ids b.ids (a.tree ∙ sym b.tree)

-- ---- reading

-- the ids in a shape are those of the items
shape_items : (ts : List Tree) (s : Shape) → trees (trees_by_ids ts (ids_in s)) ≡ tree_items (tree_by ts s)
shape_items ts hole_shape = refl
shape_items ts (integer_shape n) = refl
shape_items ts (truth_shape b) = refl
shape_items ts (text_shape s) = refl
shape_items ts (symbol_shape s) = refl
shape_items ts (list_shape m is) = refl

-- the term at a place
pub term_there : (es : List (Key × Term)) (i : ℕ) (v : Term)
    → slice_get (map (λ e. e.1) es) i ≡ Some v → tree_of v ≡ tree_by_id (entry_trees es) i
term_there [] i v h = cc
term_there (e ∷ es) zero v h = let g : e.1 ≡ v = cc in ap tree_of (sym g)
term_there (e ∷ es) (suc i) v h = term_there es i v h

-- the key at a place gives the term there
shape_there : (ts : List Tree) (es : List (Key × Term)) (i : ℕ) (k : Key)
    → AreDescribed ts es → i < length (entry_trees es)
    → k ≡ get_or (map (λ e. e.0) es) i k → IsShapeOf ts (shape_of k) (tree_by_id (entry_trees es) i)
shape_there ts [] i k d h e = absurd (omega arith)
shape_there ts (f ∷ es) zero k d h e = subst (λ (x : Key). IsShapeOf ts (shape_of x) (tree_of f.1)) (sym e) d.0
shape_there ts (f ∷ es) (suc i) k d h e = shape_there ts es i k d.1 (omega arith) e

module _
    (es : List (Key × Term)) (i : ℕ) (k : Key) (a : AreEntries es)
    (h : i < length (entry_trees es)) (e : k ≡ get_or (map (λ e. e.0) es) i k) where
  -- the ids in the key at a place are ids
  pub ids_there : AreIds (ids_in (shape_of k)) (length (entry_trees es))
  ids_there = (shape_there (entry_trees es) es i k a.described h e).ids

  -- and are those of the items of the term there
  pub items_there : trees (trees_by_ids (entry_trees es) (ids_in (shape_of k))) ≡ tree_items (tree_by_id (entry_trees es) i)
  items_there = shape_items (entry_trees es) (shape_of k) ∙ ap tree_items (shape_there (entry_trees es) es i k a.described h e).tree

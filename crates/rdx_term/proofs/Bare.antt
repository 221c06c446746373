-- Trees with their marks forgotten. Two trees are equal but for their marks where `bare t ≡ bare u`, which is an equivalence by `refl`, `sym`
-- and `∙`.
use Rattle.std.proofs.Common.{◌≡◌, ℕ, zero, suc, ◌+◌, ◌<◌, max, ◌||◌, IsTrue, Option, Some, None, List, [], ◌∷◌, ◌++◌, map, codes, get_or, refl, sym, ◌∙◌, ap, arith}
use Rattle.std.proofs.Math.ListN.{set}
use mathlib.Core.Bool.{true≢false}
use Rattle.rdx_term.specs.Tree.{Tree, hole, integer, truth, text, symbol, list, Trees, nil, cons, trees, tree_depth, trees_depth, tree_nodes, trees_nodes, tree_holes, trees_holes}
use Rattle.rdx_term.specs.Context.{is_context, IsMarked, AreMarked}
use Rattle.rdx_term.specs.Building.{list_of}
use Rattle.rdx_term.specs.Bare.{bare, bare_all}
use Rattle.rdx_term.specs.Order.{kind}
use Rattle.rdx_term.specs.Symbols.{has_symbol, have_symbol}
use Rattle.rdx_term.specs.Text.{tree_text, trees_text, spaced_text}
use Rattle.rdx_term.proofs.Trees.{context_at-holes}

-- ---- what stays where marks are forgotten

-- nothing is left to forget
mutual
  pub bare-bare : (t : Tree) → bare (bare t) ≡ bare t
  bare-bare hole = refl
  bare-bare (integer n) = refl
  bare-bare (truth b) = refl
  bare-bare (text s) = refl
  bare-bare (symbol s) = refl
  bare-bare (list m ts) = ap (list None) (bare_all-bare_all ts)

  pub bare_all-bare_all : (ts : Trees) → bare_all (bare_all ts) ≡ bare_all ts
  bare_all-bare_all nil = refl
  bare_all-bare_all (cons t ts) = λ i. cons (bare-bare t i) (bare_all-bare_all ts i)

-- the depth
mutual
  pub tree_depth-bare : (t : Tree) → tree_depth (bare t) ≡ tree_depth t
  tree_depth-bare hole = refl
  tree_depth-bare (integer n) = refl
  tree_depth-bare (truth b) = refl
  tree_depth-bare (text s) = refl
  tree_depth-bare (symbol s) = refl
  tree_depth-bare (list m ts) = ap (λ d. d + 1) (trees_depth-bare_all ts)

  pub trees_depth-bare_all : (ts : Trees) → trees_depth (bare_all ts) ≡ trees_depth ts
  trees_depth-bare_all nil = refl
  trees_depth-bare_all (cons t ts) = λ i. max (tree_depth-bare t i) (trees_depth-bare_all ts i)

-- the nodes
mutual
  pub tree_nodes-bare : (t : Tree) → tree_nodes (bare t) ≡ tree_nodes t
  tree_nodes-bare hole = refl
  tree_nodes-bare (integer n) = refl
  tree_nodes-bare (truth b) = refl
  tree_nodes-bare (text s) = refl
  tree_nodes-bare (symbol s) = refl
  tree_nodes-bare (list m ts) = ap (λ n. n + 1) (trees_nodes-bare_all ts)

  pub trees_nodes-bare_all : (ts : Trees) → trees_nodes (bare_all ts) ≡ trees_nodes ts
  trees_nodes-bare_all nil = refl
  trees_nodes-bare_all (cons t ts) = λ i. tree_nodes-bare t i + trees_nodes-bare_all ts i

-- the holes
mutual
  pub tree_holes-bare : (t : Tree) → tree_holes (bare t) ≡ tree_holes t
  tree_holes-bare hole = refl
  tree_holes-bare (integer n) = refl
  tree_holes-bare (truth b) = refl
  tree_holes-bare (text s) = refl
  tree_holes-bare (symbol s) = refl
  tree_holes-bare (list m ts) = trees_holes-bare_all ts

  pub trees_holes-bare_all : (ts : Trees) → trees_holes (bare_all ts) ≡ trees_holes ts
  trees_holes-bare_all nil = refl
  trees_holes-bare_all (cons t ts) = λ i. tree_holes-bare t i + trees_holes-bare_all ts i

-- the symbols
mutual
  pub has_symbol-bare : (name : List ℕ) (t : Tree) → has_symbol name (bare t) ≡ has_symbol name t
  has_symbol-bare name hole = refl
  has_symbol-bare name (integer n) = refl
  has_symbol-bare name (truth b) = refl
  has_symbol-bare name (text s) = refl
  has_symbol-bare name (symbol s) = refl
  has_symbol-bare name (list m ts) = have_symbol-bare_all name ts

  pub have_symbol-bare_all : (name : List ℕ) (ts : Trees) → have_symbol name (bare_all ts) ≡ have_symbol name ts
  have_symbol-bare_all name nil = refl
  have_symbol-bare_all name (cons t ts) = λ i. has_symbol-bare name t i || have_symbol-bare_all name ts i

-- the printed text
mutual
  pub tree_text-bare : (t : Tree) → tree_text (bare t) ≡ tree_text t
  tree_text-bare hole = refl
  tree_text-bare (integer n) = refl
  tree_text-bare (truth b) = refl
  tree_text-bare (text s) = refl
  tree_text-bare (symbol s) = refl
  tree_text-bare (list m ts) = ap (λ items. codes "(" ++ items ++ codes ")") (trees_text-bare_all ts)

  pub trees_text-bare_all : (ts : Trees) → trees_text (bare_all ts) ≡ trees_text ts
  trees_text-bare_all nil = refl
  trees_text-bare_all (cons t ts) = λ i. tree_text-bare t i ++ spaced_text-bare_all ts i

  pub spaced_text-bare_all : (ts : Trees) → spaced_text (bare_all ts) ≡ spaced_text ts
  spaced_text-bare_all nil = refl
  spaced_text-bare_all (cons t ts) = λ i. codes " " ++ tree_text-bare t i ++ spaced_text-bare_all ts i

-- ---- trees without marks

-- no list in the tree has a mark
abbrev mutual
  pub HasNoMark : Tree → Type 0
  HasNoMark hole = Unit {0}
  HasNoMark (integer n) = Unit {0}
  HasNoMark (truth b) = Unit {0}
  HasNoMark (text s) = Unit {0}
  HasNoMark (symbol s) = Unit {0}
  HasNoMark (list None ts) = HaveNoMark ts
  HasNoMark (list (Some k) ts) = ⊥

  -- the same of each item
  pub HaveNoMark : Trees → Type 0
  HaveNoMark nil = Unit {0}
  HaveNoMark (cons t ts) = HasNoMark t × HaveNoMark ts

-- a tree without marks is as it was
mutual
  pub bare-unmarked : (t : Tree) → HasNoMark t → bare t ≡ t
  bare-unmarked hole h = refl
  bare-unmarked (integer n) h = refl
  bare-unmarked (truth b) h = refl
  bare-unmarked (text s) h = refl
  bare-unmarked (symbol s) h = refl
  bare-unmarked (list None ts) h = ap (list None) (bare_all-unmarked ts h)
  bare-unmarked (list (Some k) ts) h = absurd h

  pub bare_all-unmarked : (ts : Trees) → HaveNoMark ts → bare_all ts ≡ ts
  bare_all-unmarked nil h = refl
  bare_all-unmarked (cons t ts) h = λ i. cons (bare-unmarked t h.0 i) (bare_all-unmarked ts h.1 i)

-- no mark is left
mutual
  pub HasNoMark-bare : (t : Tree) → HasNoMark (bare t)
  HasNoMark-bare hole = tt
  HasNoMark-bare (integer n) = tt
  HasNoMark-bare (truth b) = tt
  HasNoMark-bare (text s) = tt
  HasNoMark-bare (symbol s) = tt
  HasNoMark-bare (list m ts) = HaveNoMark-bare_all ts

  pub HaveNoMark-bare_all : (ts : Trees) → HaveNoMark (bare_all ts)
  HaveNoMark-bare_all nil = tt
  HaveNoMark-bare_all (cons t ts) = (HasNoMark-bare t, HaveNoMark-bare_all ts)

-- where marks fit, a tree without a hole has none
mutual
  pub HasNoMark-no_hole : (t : Tree) → IsMarked t → tree_holes t ≡ 0 → HasNoMark t
  HasNoMark-no_hole hole m e = tt
  HasNoMark-no_hole (integer n) m e = tt
  HasNoMark-no_hole (truth b) m e = tt
  HasNoMark-no_hole (text s) m e = tt
  HasNoMark-no_hole (symbol s) m e = tt
  HasNoMark-no_hole (list None ts) m e = HaveNoMark-no_hole ts m.1 e
  HasNoMark-no_hole (list (Some k) ts) m e = absurd (omega (arith, context_at-holes ts k m.0))

  pub HaveNoMark-no_hole : (ts : Trees) → AreMarked ts → trees_holes ts ≡ 0 → HaveNoMark ts
  HaveNoMark-no_hole nil m e = tt
  HaveNoMark-no_hole (cons t ts) m e = (HasNoMark-no_hole t m.0 (omega arith), HaveNoMark-no_hole ts m.1 (omega arith))

-- so it is as it was
pub bare-no_hole : (t : Tree) → IsMarked t → tree_holes t ≡ 0 → bare t ≡ t
bare-no_hole t m e = bare-unmarked t (HasNoMark-no_hole t m e)

-- ---- trees that are equal but for their marks

-- they are equally deep, and have equally many nodes and holes
pub tree_depth-same_bare : (t u : Tree) → bare t ≡ bare u → tree_depth t ≡ tree_depth u
tree_depth-same_bare t u e = sym (tree_depth-bare t) ∙ ap tree_depth e ∙ tree_depth-bare u

pub tree_nodes-same_bare : (t u : Tree) → bare t ≡ bare u → tree_nodes t ≡ tree_nodes u
tree_nodes-same_bare t u e = sym (tree_nodes-bare t) ∙ ap tree_nodes e ∙ tree_nodes-bare u

pub tree_holes-same_bare : (t u : Tree) → bare t ≡ bare u → tree_holes t ≡ tree_holes u
tree_holes-same_bare t u e = sym (tree_holes-bare t) ∙ ap tree_holes e ∙ tree_holes-bare u

-- they are of one kind
pub kind-bare : (t : Tree) → kind (bare t) ≡ kind t
kind-bare hole = refl
kind-bare (integer n) = refl
kind-bare (truth b) = refl
kind-bare (text s) = refl
kind-bare (symbol s) = refl
kind-bare (list m ts) = refl

-- what is no list has no mark
pub bare-atom : (t : Tree) → kind t < 5 → bare t ≡ t
bare-atom hole h = refl
bare-atom (integer n) h = refl
bare-atom (truth b) h = refl
bare-atom (text s) h = refl
bare-atom (symbol s) h = refl
bare-atom (list m ts) h = absurd (omega arith)

-- so what is equal to it but for marks is equal to it
pub same_bare-atom : (t u : Tree) → kind u < 5 → bare t ≡ bare u → t ≡ u
same_bare-atom t u h e =
    let k : kind t ≡ kind u = sym (kind-bare t) ∙ ap kind e ∙ kind-bare u in
    sym (bare-atom t (omega arith)) ∙ e ∙ bare-atom u h

-- a list with this mark and with these items once their marks are forgotten
pub record IsListOf (t : Tree) (items : Trees) : Type 0 where
  pub mark : Option ℕ
  pub parts : Trees
  pub is : t ≡ list mark parts
  pub same : bare_all parts ≡ bare_all items

-- what is equal to a list but for marks is a list of such items
pub same_bare-list : (t : Tree) (m : Option ℕ) (us : Trees) → bare t ≡ bare (list m us) → IsListOf t us
same_bare-list hole m us e = absurd (cc)
same_bare-list (integer n) m us e = absurd (cc)
same_bare-list (truth b) m us e = absurd (cc)
same_bare-list (text s) m us e = absurd (cc)
same_bare-list (symbol s) m us e = absurd (cc)
same_bare-list (list n ts) m us e = record { mark = n; parts = ts; is = refl; same = cc }

-- of the contexts the hole alone is left
pub is_context-bare : (t : Tree) → IsTrue (is_context (bare t)) → t ≡ hole
is_context-bare hole h = refl
is_context-bare (integer n) h = absurd (true≢false (sym h))
is_context-bare (truth b) h = absurd (true≢false (sym h))
is_context-bare (text s) h = absurd (true≢false (sym h))
is_context-bare (symbol s) h = absurd (true≢false (sym h))
is_context-bare (list m ts) h = absurd (true≢false (sym h))

-- ---- lists

-- a list is the list of its items, each with its marks forgotten, whatever its own mark
pub bare-list : (m n : Option ℕ) (ts us : Trees) → bare_all ts ≡ bare_all us → bare (list m ts) ≡ bare (list n us)
bare-list m n ts us e = ap (list None) e

-- also the list that is built of these items
pub bare-list_of : (ts : Trees) → bare (list_of ts) ≡ list None (bare_all ts)
bare-list_of ts = refl

-- the items of a list, as a list
pub bare_all-trees : (ts : List Tree) → bare_all (trees ts) ≡ trees (map bare ts)
bare_all-trees [] = refl
bare_all-trees (t ∷ ts) = ap (cons (bare t)) (bare_all-trees ts)

-- items that are pairwise equal but for marks
pub bare_all-same_bare : (ts us : List Tree) → map bare ts ≡ map bare us → bare_all (trees ts) ≡ bare_all (trees us)
bare_all-same_bare ts us e = bare_all-trees ts ∙ ap trees e ∙ sym (bare_all-trees us)

-- items of which one is replaced
pub bare_all-set : (ts : List Tree) (k : ℕ) (u : Tree) → bare_all (trees (set ts k u)) ≡ trees (set (map bare ts) k (bare u))
bare_all-set [] k u = refl
bare_all-set (t ∷ ts) zero u = ap (cons (bare u)) (bare_all-trees ts)
bare_all-set (t ∷ ts) (suc k) u = ap (cons (bare t)) (bare_all-set ts k u)

-- an item that is replaced by one that is equal but for marks, as where a context is put in its place and filled again
pub bare_all-set_same : (ts : List Tree) (k : ℕ) (u d : Tree) → bare u ≡ bare (get_or ts k d) → bare_all (trees (set ts k u)) ≡ bare_all (trees ts)
bare_all-set_same [] k u d e = refl
bare_all-set_same (t ∷ ts) zero u d e = ap (λ (w : Tree). cons w (bare_all (trees ts))) e
bare_all-set_same (t ∷ ts) (suc k) u d e = ap (cons (bare t)) (bare_all-set_same ts k u d e)

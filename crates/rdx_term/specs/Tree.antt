-- Trees, for which terms stand, with their depth, nodes and holes.
use Rattle.std.specs.Prelude.{ℕ, ◌+◌, max, ℤ, Bool, List, [], ◌∷◌, Option}

-- The hole, an integer, a truth value, a string and a symbol by their bytes, or a list of trees with at most one mark, the place of one
-- item, from 0.
mutual
  pub data Tree : Type 0 where
    hole : Tree
    integer : ℤ → Tree
    truth : Bool → Tree
    text : List ℕ → Tree
    symbol : List ℕ → Tree
    list : Option ℕ → Trees → Tree

  -- the items of a list
  pub data Trees : Type 0 where
    nil : Trees
    cons : Tree → Trees → Trees

-- the same trees, as the items of a list
abbrev pub trees : List Tree → Trees
trees [] = nil
trees (t ∷ ts) = cons t (trees ts)

-- The depth: 0 for an atom and for the hole; for a list one more than its deepest item, and 1 where it is empty. Atoms are integers, truth
-- values, strings and symbols.
abbrev mutual
  pub tree_depth : Tree → ℕ
  tree_depth hole = 0
  tree_depth (integer n) = 0
  tree_depth (truth b) = 0
  tree_depth (text s) = 0
  tree_depth (symbol s) = 0
  tree_depth (list m ts) = trees_depth ts + 1

  -- the depth of the deepest item, and 0 where there is none
  pub trees_depth : Trees → ℕ
  trees_depth nil = 0
  trees_depth (cons t ts) = max (tree_depth t) (trees_depth ts)

-- The nodes: 1 for an atom and for the hole; for a list one more than its items have together. Equal items count each time.
abbrev mutual
  pub tree_nodes : Tree → ℕ
  tree_nodes hole = 1
  tree_nodes (integer n) = 1
  tree_nodes (truth b) = 1
  tree_nodes (text s) = 1
  tree_nodes (symbol s) = 1
  tree_nodes (list m ts) = trees_nodes ts + 1

  -- the nodes of all items together
  pub trees_nodes : Trees → ℕ
  trees_nodes nil = 0
  trees_nodes (cons t ts) = tree_nodes t + trees_nodes ts

-- how many holes there are, on the path of marks or beside it
abbrev mutual
  pub tree_holes : Tree → ℕ
  tree_holes hole = 1
  tree_holes (integer n) = 0
  tree_holes (truth b) = 0
  tree_holes (text s) = 0
  tree_holes (symbol s) = 0
  tree_holes (list m ts) = trees_holes ts

  -- the holes of all items together
  pub trees_holes : Trees → ℕ
  trees_holes nil = 0
  trees_holes (cons t ts) = tree_holes t + trees_holes ts

-- what a list holds: its mark, and its items in order
pub record Contents : Type 0 where
  pub mark : Option ℕ
  pub items : List Tree

-- the list that holds this
abbrev pub contents_tree : Contents → Tree
contents_tree c = list c.mark (trees c.items)

-- What stands in a tree where a path leads, and the context around it. A path is a list of places, in each list on the way the place of the
-- item to go to.
use Rattle.std.specs.Prelude.{ℕ, ◌<◌, List, [], ◌∷◌, Some}
use Rattle.rdx_term.specs.Tree.{Tree, hole, list}
use Rattle.rdx_term.specs.Items.{tree_items, trees_count, item_at, put_at}

-- the path leads to something in the tree: at each step there is an item in its place
abbrev pub IsPlace : Tree → List ℕ → Type 0
IsPlace t [] = Unit {0}
IsPlace t (k ∷ ks) = (k < trees_count (tree_items t)) × IsPlace (item_at (tree_items t) k t) ks

-- what stands where the path leads; a step to where there is no item leads on from the same tree
abbrev pub tree_at : Tree → List ℕ → Tree
tree_at t [] = t
tree_at t (k ∷ ks) = tree_at (item_at (tree_items t) k t) ks

-- the tree with the hole in place of what stands there, marked along the path
abbrev pub context_at : Tree → List ℕ → Tree
context_at t [] = hole
context_at t (k ∷ ks) = list (Some k) (put_at (tree_items t) k (context_at (item_at (tree_items t) k t) ks))

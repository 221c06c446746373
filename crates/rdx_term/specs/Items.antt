-- The items of trees, by their places, which are counted from 0.
use Rattle.std.specs.Prelude.{ℕ, zero, suc, ◌+◌}
use Rattle.rdx_term.specs.Tree.{Tree, hole, integer, truth, text, symbol, list, Trees, nil, cons}

-- the items of a list; what is no list has none
abbrev pub tree_items : Tree → Trees
tree_items hole = nil
tree_items (integer n) = nil
tree_items (truth b) = nil
tree_items (text s) = nil
tree_items (symbol s) = nil
tree_items (list m ts) = ts

-- how many items there are
abbrev pub trees_count : Trees → ℕ
trees_count nil = 0
trees_count (cons t ts) = trees_count ts + 1

-- the item at this place, and the other tree where there is none
abbrev pub item_at : Trees → ℕ → Tree → Tree
item_at nil k other = other
item_at (cons t ts) zero other = t
item_at (cons t ts) (suc k) other = item_at ts k other

-- the items with this tree in place of the one at that place; where there is none, as they were
abbrev pub put_at : Trees → ℕ → Tree → Trees
put_at nil k u = nil
put_at (cons t ts) zero u = cons u ts
put_at (cons t ts) (suc k) u = cons t (put_at ts k u)

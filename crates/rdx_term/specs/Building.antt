-- The list that is built of some items: which mark it gets.
use Rattle.std.specs.Prelude.{ℕ, ◌+◌, ◌==◌, Option, Some, None, if◌then◌else◌}
use Rattle.rdx_term.specs.Tree.{Tree, list, Trees, nil, cons, tree_holes, trees_holes}

-- the place of the first item with a hole; where no item has one it is the number of items, and counts for nothing
abbrev pub hole_place : Trees → ℕ
hole_place nil = 0
hole_place (cons t ts) = if tree_holes t == 0 then hole_place ts + 1 else 0

-- the mark that a list of these items gets: at the one hole, where there is exactly one
abbrev pub mark_for : Trees → Option ℕ
mark_for ts = if trees_holes ts == 1 then Some (hole_place ts) else None

-- the list of these items, with that mark
abbrev pub list_of : Trees → Tree
list_of ts = list (mark_for ts) ts

-- The trees that terms stand for.
use Rattle.std.specs.Prelude.{ℕ, List, Some, map}
use Rattle.std.specs.Rc.{rc_str_bytes}
use Rattle.rdx_term.specs.Tree.{Tree, hole, integer, truth, text, symbol, list, Trees, contents_tree, trees}
use Rattle.rdx_term.specs.Building.{list_of}
use Rattle.rdx_term.specs.declared.term.Term.{Term}
use Rattle.rdx_term.specs.declared.term.Term.TheVariants.{Hole, Int, Bool, Str, Sym, List as ListOf}

-- the tree of a term
abbrev pub tree_of : Term → Tree
tree_of Hole = hole
tree_of (Int n) = integer n
tree_of (Bool b) = truth b
tree_of (Str s) = text (rc_str_bytes s)
tree_of (Sym s) = symbol s
tree_of (ListOf rc) = contents_tree rc.value

-- the trees of terms, as the items of a list
abbrev pub trees_of : List Term → Trees
trees_of ts = trees (map tree_of ts)

-- the list that is built of these terms
abbrev pub built_list : List Term → Tree
built_list ts = list_of (trees_of ts)

-- the list of these terms, marked at this place
abbrev pub marked_list : ℕ → List Term → Tree
marked_list k ts = list (Some k) (trees_of ts)

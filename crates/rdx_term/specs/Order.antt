-- The order of trees: the hole, integers by value, false, true, strings by bytes, symbols by bytes, lists. Lists compare item by item,
-- a proper prefix first, and then by their marks, no mark first.
use Rattle.std.specs.Prelude.{ℕ}
use Rattle.std.specs.declared.cmp.Ordering.{Ordering}
use Rattle.std.specs.declared.cmp.Ordering.TheVariants.{Less, Equal, Greater}
use Rattle.std.specs.Ordering.{ordering_then, nat_cmp, int_cmp, bool_cmp}
use Rattle.std.specs.Option.{option_cmp}
use Rattle.std.specs.Cmp.Lexicographic.{slice_cmp}
use Rattle.rdx_term.specs.Tree.{Tree, hole, integer, truth, text, symbol, list, Trees, nil, cons}

-- the place of a tree's kind in the order
abbrev pub kind : Tree → ℕ
kind hole = 0
kind (integer n) = 1
kind (truth b) = 2
kind (text s) = 3
kind (symbol s) = 4
kind (list m ts) = 5

-- trees of one kind by what they hold, and others by their kinds
abbrev mutual
  pub tree_cmp : Tree → Tree → Ordering
  tree_cmp (integer n) (integer k) = int_cmp n k
  tree_cmp (truth b) (truth c) = bool_cmp b c
  tree_cmp (text s) (text r) = slice_cmp nat_cmp s r
  tree_cmp (symbol s) (symbol r) = slice_cmp nat_cmp s r
  tree_cmp (list m ts) (list n us) = ordering_then (trees_cmp ts us) (option_cmp nat_cmp m n)
  tree_cmp t u = nat_cmp (kind t) (kind u)

  pub trees_cmp : Trees → Trees → Ordering
  trees_cmp nil nil = Equal
  trees_cmp nil (cons u us) = Less
  trees_cmp (cons t ts) nil = Greater
  trees_cmp (cons t ts) (cons u us) = ordering_then (tree_cmp t u) (trees_cmp ts us)

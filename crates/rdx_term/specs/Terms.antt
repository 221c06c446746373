-- Which trees are terms: how their atoms are spelled, and the limits on depth and nodes.
use Rattle.std.specs.Prelude.{FitsSigned, ◌<◌, ◌≤◌, IsTrue}
use Rattle.std.specs.Int.{w128}
use Rattle.std.specs.Str.{IsUtf8}
use Rattle.rdx_term.specs.Tree.{Tree, hole, integer, truth, text, symbol, list, Trees, nil, cons, tree_depth, tree_nodes}
use Rattle.rdx_term.specs.Context.{IsMarked}
use Rattle.rdx_term.specs.Spelling.{is_name}

-- each integer fits 128 bits, each string is text, and each symbol is text that is spelled as a name
abbrev mutual
  pub IsSpelled : Tree → Type 0
  IsSpelled hole = Unit {0}
  IsSpelled (integer n) = FitsSigned w128 n
  IsSpelled (truth b) = Unit {0}
  IsSpelled (text s) = IsUtf8 s
  IsSpelled (symbol s) = IsUtf8 s × IsTrue (is_name s)
  IsSpelled (list m ts) = AreSpelled ts

  -- the same of each item
  pub AreSpelled : Trees → Type 0
  AreSpelled nil = Unit {0}
  AreSpelled (cons t ts) = IsSpelled t × AreSpelled ts

-- A tree that a term stands for: its marks fit, its atoms are well formed, it is at most 500 deep and has at most 4,000,000 nodes.
pub record IsTerm (t : Tree) : Type 0 where
  pub marked : IsMarked t
  pub spelled : IsSpelled t
  pub shallow : tree_depth t ≤ 500
  pub small : tree_nodes t ≤ 4_000_000

-- the limit on depth is passed
abbrev pub IsTooDeep : Tree → Type 0
IsTooDeep t = 500 < tree_depth t

-- the limit on depth is kept, and the limit on nodes is passed
abbrev pub IsTooLarge : Tree → Type 0
IsTooLarge t = (tree_depth t ≤ 500) × (4_000_000 < tree_nodes t)

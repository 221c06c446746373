-- What always holds of a shared list: its tree is that of a term, and the depth, the nodes and the holes that it keeps are the tree's.
use Rattle.std.specs.Prelude.{◌≡◌}
use Rattle.rdx_term.specs.Tree.{Tree, list, tree_depth, tree_nodes, tree_holes}
use Rattle.rdx_term.specs.Terms.{IsTerm}
use Rattle.rdx_term.specs.declared.term.Node.TheInside.{Inside}
use Rattle.rdx_term.specs.View.{trees_of}

-- these fields are right for this tree
pub record Measures (a : Inside) (t : Tree) : Type 0 where
  pub valid : IsTerm t
  pub depth_is : a.depth ≡ tree_depth t
  pub nodes_is : a.nodes ≡ tree_nodes t
  pub holes_is : a.holes ≡ tree_holes t

-- the fields are right for the tree of the items and the mark
abbrev pub IsMeasured : Inside → Type 0
IsMeasured a = Measures a (list a.mark (trees_of a.items.items))

-- The limits of terms.
use Rattle.std.specs.Prelude.{◌≤◌}
use Rattle.rdx_term.specs.Tree.{Tree, tree_depth, tree_nodes}

-- at most 500 deep, and at most 4,000,000 nodes
pub record KeepsLimits (t : Tree) : Type 0 where
  pub shallow : tree_depth t ≤ 500
  pub small : tree_nodes t ≤ 4_000_000

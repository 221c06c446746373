use Rattle.rdx_term.specs.Tree.{tree_nodes}
use Rattle.rdx_term.specs.View.{tree_of}
use Rattle.rdx_fill.proofs.paths.+path_length.Given as goal

abbrev pub decreases-path_length : goal.decreases-path_length
decreases-path_length l = tree_nodes (tree_of l.t.now)

use Rattle.rdx_term.specs.Tree.{tree_nodes}
use Rattle.rdx_term.specs.View.{tree_of}
use Rattle.rdx_fill.proofs.paths.+push_path.Given as goal

abbrev pub decreases-push_path : goal.decreases-push_path
decreases-push_path l = tree_nodes (tree_of l.t.now)

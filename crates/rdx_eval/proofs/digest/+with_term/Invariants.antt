use Rattle.rdx_term.specs.Tree.{tree_nodes}
use Rattle.rdx_term.specs.View.{tree_of}
use Rattle.rdx_eval.proofs.digest.+with_term.Given as goal

abbrev pub decreases-with_term : goal.decreases-with_term
decreases-with_term l = tree_nodes (tree_of l.t.now)

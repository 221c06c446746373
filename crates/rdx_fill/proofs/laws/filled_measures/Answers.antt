use Rattle.rdx_term.proofs.Measures.{tree_depth-fill_of, tree_nodes-fill_of, tree_holes-fill_of}
use Rattle.rdx_fill.proofs.laws.filled_measures.Goals as goal

pub returns-clause-depth : goal.returns-clause-depth
returns-clause-depth c = tree_depth-fill_of

pub returns-clause-nodes : goal.returns-clause-nodes
returns-clause-nodes c = tree_nodes-fill_of

pub returns-clause-holes : goal.returns-clause-holes
returns-clause-holes c = tree_holes-fill_of

use Rattle.rdx_term.proofs.Bare.{bare-bare, bare-no_hole, tree_depth-bare, tree_nodes-bare, tree_holes-bare, tree_text-bare}
use Rattle.rdx_term.proofs.laws.forgotten_marks.Goals as goal

pub returns-clause-once : goal.returns-clause-once
returns-clause-once c = bare-bare

pub returns-clause-no_hole : goal.returns-clause-no_hole
returns-clause-no_hole c = λ t v e. bare-no_hole t v.marked e

pub returns-clause-rest : goal.returns-clause-rest
returns-clause-rest c = λ t. record { depth = tree_depth-bare t; nodes = tree_nodes-bare t; holes = tree_holes-bare t; text = tree_text-bare t }

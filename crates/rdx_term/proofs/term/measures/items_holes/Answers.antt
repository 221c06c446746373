use Rattle.std.proofs.Common.{arith}
use Rattle.rdx_term.proofs.Trees.{tree_holes_le-nodes}
use Rattle.std.proofs.lemmas.Grind.{common_steps}
use Rattle.rdx_term.proofs.term.measures.items_holes.Goals as goal

pub overflow_add-holes : goal.overflow_add-holes
overflow_add-holes c = grind (arith, common_steps, tree_holes_le-nodes)

pub loop-item-preserved : goal.loop-item-preserved
loop-item-preserved c = grind (arith, common_steps, tree_holes_le-nodes)

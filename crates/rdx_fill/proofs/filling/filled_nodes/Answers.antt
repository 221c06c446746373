use Rattle.std.proofs.Common.{arith}
use Rattle.std.proofs.lemmas.Grind.{common_steps}
use Rattle.rdx_term.proofs.Measures.{tree_nodes-fill_of}
use Rattle.rdx_fill.proofs.filling.filled_nodes.Goals as goal

pub returns : goal.returns
returns c = grind (arith, common_steps, tree_nodes-fill_of)

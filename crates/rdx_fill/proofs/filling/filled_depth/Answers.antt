use Rattle.std.proofs.Common.{arith}
use Rattle.std.proofs.lemmas.Grind.{common_steps}
use Rattle.rdx_term.proofs.Measures.{tree_depth-fill_of}
use Rattle.rdx_fill.proofs.filling.filled_depth.Goals as goal

pub returns : goal.returns
returns c = grind (arith, common_steps, tree_depth-fill_of)

use Rattle.std.proofs.Common.{arith}
use Rattle.std.proofs.lemmas.Grind.{common_steps}
use Rattle.rdx_term.proofs.Trees.{marked-term}
use Rattle.rdx_term.proofs.term.build.marked_list.Goals as goal

pub node-requires-clause-term : goal.node-requires-clause-term
node-requires-clause-term c = grind (arith, common_steps, marked-term)

use Rattle.std.proofs.Common.{arith}
use Rattle.std.proofs.lemmas.Grind.{common_steps}
use Rattle.rdx_term.proofs.Orders.{trees_cmp-ended}
use Rattle.rdx_term.proofs.term.+compare.Goals as goal

pub Node::compare-returns : goal.Node::compare-returns
Node::compare-returns t c = grind (arith, common_steps, trees_cmp-ended)

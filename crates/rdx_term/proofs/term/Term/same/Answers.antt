use Rattle.std.proofs.Common.{arith}
use Rattle.std.proofs.lemmas.Grind.{common_steps}
use Rattle.rdx_term.proofs.OrderLaws.{tree_cmp-equal, tree_cmp-itself}
use Rattle.rdx_term.proofs.term.Term.same.Goals as goal

pub returns : goal.returns
returns c = grind (arith, common_steps, tree_cmp-equal, tree_cmp-itself)

use Rattle.std.proofs.Common.{arith}
use Rattle.std.proofs.lemmas.Grind.{common_steps}
use Rattle.rdx_term.proofs.Alike.{alike-lengths}
use Rattle.rdx_term.proofs.term.+alike.Goals as goal

pub Node::is_alike-returns-then-len : goal.Node::is_alike-returns-then-len
Node::is_alike-returns-then-len t c = grind (arith, common_steps, alike-lengths)

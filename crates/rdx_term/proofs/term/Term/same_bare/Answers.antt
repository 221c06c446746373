use Rattle.std.proofs.Common.{arith}
use Rattle.std.proofs.lemmas.Grind.{common_steps}
use Rattle.rdx_term.proofs.Alike.{bare-alike, alike-bare}
use Rattle.rdx_term.proofs.term.Term.same_bare.Goals as goal

pub returns : goal.returns
returns c = grind (arith, common_steps, bare-alike, alike-bare)

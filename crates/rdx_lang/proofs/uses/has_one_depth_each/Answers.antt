use Rattle.std.proofs.Common.{arith}
use Rattle.std.proofs.lemmas.Grind.{common_steps}
use Rattle.rdx_lang.proofs.CappedUses.{capped-fit}
use Rattle.rdx_lang.proofs.uses.has_one_depth_each.Goals as goal

pub returns : goal.returns
returns c = grind (arith, common_steps, capped-fit)

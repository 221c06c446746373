use Rattle.std.proofs.Common.{arith}
use Rattle.std.proofs.lemmas.Grind.{common_steps}
use Rattle.rdx_lang.proofs.NameSets.{names-alone}
use Rattle.rdx_lang.proofs.pattern.Pat.names.Goals as goal

pub returns : goal.returns
returns c = grind (arith, common_steps, names-alone)

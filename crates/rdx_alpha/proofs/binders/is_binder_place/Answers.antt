use Rattle.std.proofs.Common.{arith}
use Rattle.std.proofs.lemmas.Grind.{common_steps}
use Rattle.rdx_patterns.proofs.Sexps.{listed-sexps}
use Rattle.rdx_alpha.proofs.binders.is_binder_place.Goals as goal

pub returns-in-List : goal.returns-in-List
returns-in-List c = grind (arith, common_steps, listed-sexps)

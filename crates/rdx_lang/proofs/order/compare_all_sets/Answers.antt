use Rattle.std.proofs.Common.{arith}
use Rattle.std.proofs.lemmas.Grind.{common_steps}
use Rattle.rdx_lang.proofs.Orders.{mismatches_cmp-ended}
use Rattle.rdx_lang.proofs.order.compare_all_sets.Goals as goal

pub returns : goal.returns
returns c = grind (arith, common_steps, mismatches_cmp-ended)

use Rattle.std.proofs.Common.{arith}
use Rattle.std.proofs.lemmas.Grind.{common_steps}
use Rattle.rdx_lang.proofs.Orders.{pairs_cmp-ended}
use Rattle.rdx_lang.proofs.order.compare_all_pairs.Goals as goal

pub returns : goal.returns
returns c = grind (arith, common_steps, pairs_cmp-ended)

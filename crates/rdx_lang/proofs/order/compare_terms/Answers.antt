use Rattle.std.proofs.Common.{arith}
use Rattle.std.proofs.lemmas.Grind.{common_steps}
use Rattle.rdx_lang.proofs.Orders.{terms_cmp-ended}
use Rattle.rdx_lang.proofs.order.compare_terms.Goals as goal

pub returns : goal.returns
returns c = grind (arith, common_steps, terms_cmp-ended)

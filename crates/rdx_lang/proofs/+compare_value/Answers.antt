use Rattle.std.proofs.Common.{arith}
use Rattle.std.proofs.lemmas.Grind.{common_steps}
use Rattle.rdx_lang.proofs.Orders.{values_cmp-ended}
use Rattle.rdx_lang.proofs.+compare_value.Goals as goal

pub order::compare_values-returns : goal.order::compare_values-returns
order::compare_values-returns t c = grind (arith, common_steps, values_cmp-ended)

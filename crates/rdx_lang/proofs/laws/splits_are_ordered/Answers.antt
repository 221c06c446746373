use Rattle.rdx_lang.specs.Model.TotalOrders.{decomposition_cmp-total}
use Rattle.rdx_lang.proofs.OrderLaws.{decomposition_cmp-tells}
use Rattle.rdx_lang.proofs.laws.splits_are_ordered.Goals as goal

pub returns-clause-total : goal.returns-clause-total
returns-clause-total c = decomposition_cmp-total

pub returns-clause-equal : goal.returns-clause-equal
returns-clause-equal c = decomposition_cmp-tells

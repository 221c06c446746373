use Rattle.rdx_lang.specs.Model.TotalOrders.{binding_cmp-total}
use Rattle.rdx_lang.proofs.OrderLaws.{binding_cmp-tells}
use Rattle.rdx_lang.proofs.laws.bindings_are_ordered.Goals as goal

pub returns-clause-total : goal.returns-clause-total
returns-clause-total c = binding_cmp-total

pub returns-clause-equal : goal.returns-clause-equal
returns-clause-equal c = binding_cmp-tells

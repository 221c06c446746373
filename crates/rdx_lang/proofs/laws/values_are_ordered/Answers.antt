use Rattle.rdx_lang.specs.Model.ValueOrder.{value_cmp-total}
use Rattle.rdx_lang.proofs.OrderLaws.{value_cmp-tells}
use Rattle.rdx_lang.proofs.laws.values_are_ordered.Goals as goal

pub returns-clause-total : goal.returns-clause-total
returns-clause-total c = value_cmp-total

pub returns-clause-equal : goal.returns-clause-equal
returns-clause-equal c = value_cmp-tells

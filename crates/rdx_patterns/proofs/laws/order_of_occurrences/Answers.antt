use Rattle.rdx_patterns.proofs.PlaceOrder.{in_order}
use Rattle.rdx_patterns.proofs.laws.order_of_occurrences.Goals as goal

pub returns : goal.returns
returns c = in_order

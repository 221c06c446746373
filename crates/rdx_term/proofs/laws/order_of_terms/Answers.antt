use Rattle.rdx_term.specs.Model.TotalOrder.{tree_cmp-total}
use Rattle.rdx_term.proofs.OrderLaws.{tree_cmp-equal, tree_cmp-itself}
use Rattle.rdx_term.proofs.laws.order_of_terms.Goals as goal

pub returns-clause-total : goal.returns-clause-total
returns-clause-total c = tree_cmp-total

pub returns-clause-equal : goal.returns-clause-equal
returns-clause-equal c = λ t u. (tree_cmp-equal t u, tree_cmp-itself t u)

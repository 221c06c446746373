use Rattle.rdx_term.specs.Model.TotalOrder.{tree_cmp-total}
use Rattle.rdx_term.specs.Order.{tree_cmp}
use Rattle.rdx_lang.proofs.OrderLaws.{one_listing}
use Rattle.rdx_enum.specs.UpTo.{IsUpTo}
use Rattle.rdx_enum.proofs.laws.one_terms.Goals as goal

pub returns : goal.returns
returns c L x k ts us l m = one_listing tree_cmp (IsUpTo L x k) ts us tree_cmp-total l m

use Rattle.rdx_delta.proofs.Arguments.{equality_of_two}
use Rattle.rdx_delta.proofs.equality.host_equal.Goals as goal

pub returns-in-len2 : goal.returns-in-len2
returns-in-len2 c = equality_of_two c.args.args.now c.t-item.result c.u-item.result c.same_bare.result c.in-len2.len_at_least c.in-len2.len_below c.t-item.is c.u-item.is c.same_bare.ensures

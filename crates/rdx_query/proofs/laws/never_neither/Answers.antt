use Rattle.rdx_query.proofs.AcceptedOrRefused.{accepted_or_refused}
use Rattle.rdx_query.proofs.laws.never_neither.Goals as goal

pub returns : goal.returns
returns c ds = accepted_or_refused c.free_or_recursive.ensures ds

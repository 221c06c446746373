use Rattle.rdx_parts.proofs.PartsAt.{named-at}
use Rattle.rdx_parts.proofs.stands.names.add_fresh_names.Goals as goal

pub bound_name-requires-clause-name : goal.bound_name-requires-clause-name
bound_name-requires-clause-name c = named-at c.args.made.now c.loop-d.d-index c.d-item.result c.loop-d-test.true c.d-item.is c.requires

use Rattle.rdx_parts.proofs.PartsAt.{named-at}
use Rattle.rdx_parts.proofs.stands.readings.add_fresh.Goals as goal

pub symbol_name-requires : goal.symbol_name-requires
symbol_name-requires c = named-at c.args.made.now c.loop-d.d-index c.d-item.result c.loop-d-test.true c.d-item.is c.requires

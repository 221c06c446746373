use Rattle.rdx_parts.proofs.PartsAt.{datum-readable}
use Rattle.rdx_defs.proofs.judgements.stands.add_lone_patterns.Goals as goal

pub add_alone-requires : goal.add_alone-requires
add_alone-requires c = datum-readable c.args.patterns.now c.loop-d.d-index c.d-item.result c.loop-d-test.true c.d-item.is c.requires

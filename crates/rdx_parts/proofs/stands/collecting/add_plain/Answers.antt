use Rattle.rdx_parts.proofs.PartsAt.{datum-readable}
use Rattle.rdx_parts.proofs.stands.collecting.add_plain.Goals as goal

pub in_takes-requires : goal.in_takes-requires
in_takes-requires c = datum-readable c.args.arguments.now c.loop-d.d-index c.d-item.result c.loop-d-test.true c.d-item.is c.requires

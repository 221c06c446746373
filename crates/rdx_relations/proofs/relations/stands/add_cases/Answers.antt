use Rattle.rdx_parts.proofs.PartsAt.{datum-readable}
use Rattle.rdx_relations.proofs.relations.stands.add_cases.Goals as goal

pub add_case-requires : goal.add_case-requires
add_case-requires c = datum-readable c.args.cases.now c.loop-d.d-index c.d-item.result c.loop-d-test.true c.d-item.is c.requires

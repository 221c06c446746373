use Rattle.rdx_parts.proofs.PartsAt.{datum-readable}
use Rattle.rdx_defs.proofs.metafunctions.stands.add_clauses.Goals as goal

pub add_clause-requires : goal.add_clause-requires
add_clause-requires c = datum-readable c.args.clauses.now c.loop-d.d-index c.d-item.result c.loop-d-test.true c.d-item.is c.requires

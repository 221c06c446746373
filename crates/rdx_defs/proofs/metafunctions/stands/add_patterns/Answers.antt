use Rattle.rdx_parts.proofs.PartsAt.{readable-at}
use Rattle.rdx_defs.proofs.metafunctions.stands.add_patterns.Goals as goal

pub add_alone-requires : goal.add_alone-requires
add_alone-requires c =
    readable-at (λ d. d.now) c.args.alone.now c.loop-pattern.pattern-index c.pattern-item.result c.loop-pattern-test.true c.pattern-item.is c.requires

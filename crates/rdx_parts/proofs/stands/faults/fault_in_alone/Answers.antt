use Rattle.rdx_parts.specs.PartsHave.{CanBind}
use Rattle.rdx_parts.proofs.PartsAt.{alone-at}
use Rattle.rdx_parts.proofs.stands.faults.fault_in_alone.Goals as goal

pub fault_in_takes-requires : goal.fault_in_takes-requires
fault_in_takes-requires c =
    alone-at (CanBind c.args.names.now) (λ d. d.now) c.args.alone.now c.loop-pattern.pattern-index c.pattern-item.result c.loop-pattern-test.true c.pattern-item.is c.requires

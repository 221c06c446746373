use Rattle.std.proofs.Common.{refl}
use Rattle.rdx_why.proofs.Frames.{step_begins}
use Rattle.rdx_why.proofs.explaining.begun.Goals as goal

pub returns-clause-begun : goal.returns-clause-begun
returns-clause-begun g c =
    step_begins _ c.args.goal c.in_ok-step.step _ refl refl c.new.ensures.items c.reverse.ensures.items c.in_ok-step.ensures.step

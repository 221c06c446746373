use Rattle.rdx_lang.specs.ProgramView.{program_of}
use Rattle.rdx_deriv.specs.DerivationView.{goal_of}
use Rattle.rdx_why.proofs.Frames.{not_explained}
use Rattle.rdx_why.proofs.explaining.explain.Goals as goal

pub returns-in_default-clause-none : goal.returns-in_default-clause-none
returns-in_default-clause-none g c =
    not_explained (program_of c.args.engine.now.program.now) (goal_of c.args.goal.now) (rw c.in_default.is at c.in_ok-goal.ensures.none)

use Rattle.std.proofs.Common.{sym, subst}
use Rattle.rdx_lang.specs.ProgramView.{program_of}
use Rattle.rdx_lang.specs.Programs.{Program}
use Rattle.rdx_deriv.specs.Derivations.{Goal}
use Rattle.rdx_deriv.specs.DerivationView.{goal_of}
use Rattle.rdx_why.specs.Inside.Steps.{IsOnTheWay}
use Rattle.rdx_why.proofs.KnownGoals.{known_way}
use Rattle.rdx_why.proofs.explaining.explain_known.Goals as goal

pub derived-requires-clause-way : goal.derived-requires-clause-way
derived-requires-clause-way g c =
    let P : Program = program_of c.args.engine.now.program.now in
    subst (λ (h : Goal). IsOnTheWay P h) (sym c.in_ok-goal.ensures)
    (known_way P (goal_of c.args.goal.now) c.requires.asked c.requires.known (c.is_plain.ensures c.if-is_plain.true))

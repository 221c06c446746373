use Rattle.rdx_lang.specs.ProgramView.{program_of}
use Rattle.rdx_lang.specs.Shown.{binding_of}
use Rattle.rdx_lang.specs.TemplateView.{host_of}
use Rattle.rdx_deriv.specs.DerivationView.{goals_of}
use Rattle.rdx_deriv.proofs.ExtraUseLaws.{condition_met, condition_not}
use Rattle.rdx_deriv.proofs.extras.by_condition.Goals as goal

pub returns-then-branch-clause-leads : goal.returns-then-branch-clause-leads
returns-then-branch-clause-leads g c =
    condition_met (program_of c.args.program.now) (host_of c.args.h.now) (binding_of c.args.at.binding) (goals_of c.args.at.under.now)
    (c.in_ok-is_met.ensures.met.0 c.if-branch.true)

pub returns-clause-leads : goal.returns-clause-leads
returns-clause-leads g c =
    condition_not (program_of c.args.program.now) (host_of c.args.h.now) (binding_of c.args.at.binding) (goals_of c.args.at.under.now)
    (λ m. let k = c.in_ok-is_met.ensures.met.1 m in let f = c.if-branch.false in absurd cc)

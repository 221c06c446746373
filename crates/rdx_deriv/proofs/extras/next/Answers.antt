use Rattle.std.proofs.Common.{sym, subst}
use Rattle.std.specs.Prelude.{IfOk}
use Rattle.rdx_lang.specs.ProgramView.{extra_of, program_of}
use Rattle.rdx_lang.specs.declared.program.Extra.{Extra}
use Rattle.rdx_deriv.specs.Avoiding.{avoided_of}
use Rattle.rdx_deriv.specs.Inside.Extending.{stand_of, LeadsOn}
use Rattle.rdx_deriv.specs.Finding.{Finds}
use Rattle.rdx_deriv.proofs.extras.next.Goals as goal

pub returns-in-Where-clause-leads : goal.returns-in-Where-clause-leads
returns-in-Where-clause-leads g c =
    subst (λ (x : Extra). IfOk c.by_where.result (λ r. Finds stand_of (LeadsOn (program_of c.args.program.now) c.args.l.now
    (avoided_of c.args.avoids.now)
    (extra_of x) (stand_of c.args.at)) r)) (sym c.in-Where.is) c.by_where.ensures.leads

pub returns-in-Side-clause-leads : goal.returns-in-Side-clause-leads
returns-in-Side-clause-leads g c =
    subst (λ (x : Extra). IfOk c.by_condition.result (λ r. Finds stand_of (LeadsOn (program_of c.args.program.now) c.args.l.now
    (avoided_of c.args.avoids.now)
    (extra_of x) (stand_of c.args.at)) r)) (sym c.in-Side.is) c.by_condition.ensures.leads

pub returns-in-Holds-clause-leads : goal.returns-in-Holds-clause-leads
returns-in-Holds-clause-leads g c =
    subst (λ (x : Extra). IfOk c.by_premise.result (λ r. Finds stand_of (LeadsOn (program_of c.args.program.now) c.args.l.now
    (avoided_of c.args.avoids.now)
    (extra_of x) (stand_of c.args.at)) r)) (sym c.in-Holds.is) c.by_premise.ensures.leads

pub returns-in-Fresh-clause-leads : goal.returns-in-Fresh-clause-leads
returns-in-Fresh-clause-leads g c =
    subst (λ (x : Extra). IfOk c.by_fresh.result (λ r. Finds stand_of (LeadsOn (program_of c.args.program.now) c.args.l.now
    (avoided_of c.args.avoids.now)
    (extra_of x) (stand_of c.args.at)) r)) (sym c.in-Fresh.is) c.by_fresh.ensures.leads

use Rattle.std.proofs.Common.{refl, sym, subst}
use Rattle.std.specs.Prelude.{IfOk, map}
use Rattle.std.proofs.lemmas.Result.{IfOk-weaker}
use Rattle.rdx_lang.specs.Bindings.{Binding}
use Rattle.rdx_lang.specs.Checked.{language_in}
use Rattle.rdx_lang.specs.ProgramView.{extra_of, program_of}
use Rattle.rdx_lang.specs.Shown.{binding_of}
use Rattle.rdx_lang.specs.declared.program.Extra.{Extra}
use Rattle.rdx_eval.specs.Fresh.{freshly}
use Rattle.rdx_deriv.specs.Avoiding.{avoided_of}
use Rattle.rdx_deriv.specs.DerivationView.{goal_of}
use Rattle.rdx_why.specs.Explaining.{IsKnownExtra}
use Rattle.rdx_why.specs.Inside.Ways.{IsPassed, IsWithin, WayOn}
use Rattle.rdx_why.proofs.WaysLaws.{condition_passed, fresh_joins, fresh_passed, passed_by}
use Rattle.rdx_why.proofs.judging.along.Goals as goal

pub by_where-requires-clause-known : goal.by_where-requires-clause-known
by_where-requires-clause-known g c =
    subst (λ (x : Extra). IsKnownExtra (language_in c.args.language.now) (extra_of x)) c.in-Where.is c.requires.known

pub by_where-requires-clause-way : goal.by_where-requires-clause-way
by_where-requires-clause-way g c =
    subst (λ (x : Extra). WayOn (program_of c.args.program.now) (language_in c.args.language.now) (avoided_of c.args.avoids.now) (extra_of x)
    (binding_of c.args.b.now) (IsWithin (binding_of c.args.c.now))) c.in-Where.is c.requires.way

pub by_premise-requires-clause-known : goal.by_premise-requires-clause-known
by_premise-requires-clause-known g c =
    subst (λ (x : Extra). IsKnownExtra (language_in c.args.language.now) (extra_of x)) c.in-Holds.is c.requires.known

pub by_premise-requires-clause-way : goal.by_premise-requires-clause-way
by_premise-requires-clause-way g c =
    subst (λ (x : Extra). WayOn (program_of c.args.program.now) (language_in c.args.language.now) (avoided_of c.args.avoids.now) (extra_of x)
    (binding_of c.args.b.now) (IsWithin (binding_of c.args.c.now))) c.in-Holds.is c.requires.way

pub by_fresh-requires : goal.by_fresh-requires
by_fresh-requires g c =
    let b : Binding = binding_of c.args.b.now in
    λ none. fresh_joins (avoided_of c.args.avoids.now) c.in-Fresh.name b (freshly (avoided_of c.args.avoids.now) b c.in-Fresh.name)
    (IsWithin (binding_of c.args.c.now))
    (subst (λ (x : Extra). WayOn (program_of c.args.program.now) (language_in c.args.language.now) (avoided_of c.args.avoids.now) (extra_of x)
    b (IsWithin (binding_of c.args.c.now))) c.in-Fresh.is c.requires.way) refl none

pub returns-in-Where-clause-passed : goal.returns-in-Where-clause-passed
returns-in-Where-clause-passed g c =
    subst (λ (x : Extra). IfOk c.by_where.result (λ r. IsPassed (program_of c.args.program.now) c.args.l.now (avoided_of c.args.avoids.now)
    (extra_of x) (binding_of c.args.c.now) (binding_of c.args.b.now) (map goal_of r.goals.items) (binding_of r.binding))) (sym c.in-Where.is)
    c.by_where.ensures.passed

pub returns-in-Holds-clause-passed : goal.returns-in-Holds-clause-passed
returns-in-Holds-clause-passed g c =
    subst (λ (x : Extra). IfOk c.by_premise.result (λ r. IsPassed (program_of c.args.program.now) c.args.l.now (avoided_of c.args.avoids.now)
    (extra_of x) (binding_of c.args.c.now) (binding_of c.args.b.now) (map goal_of r.goals.items) (binding_of r.binding))) (sym c.in-Holds.is)
    c.by_premise.ensures.passed

pub returns-in-Side-clause-passed : goal.returns-in-Side-clause-passed
returns-in-Side-clause-passed g c =
    let P = program_of c.args.program.now in
    let w = avoided_of c.args.avoids.now in
    let b : Binding = binding_of c.args.b.now in
    let C : Binding = binding_of c.args.c.now in
    subst (λ (x : Extra). IfOk c.passed_none.result (λ r. IsPassed P c.args.l.now w (extra_of x) C b (map goal_of r.goals.items)
    (binding_of r.binding))) (sym c.in-Side.is)
    (IfOk-weaker c.passed_none.result _ _
    (λ r e. passed_by P c.args.l.now w _ C b _ _ _ _ e.0 e.1 (condition_passed P c.args.l.now w _ C b b (IsWithin C)
    (subst (λ (x : Extra). WayOn P (language_in c.args.language.now) w (extra_of x) b (IsWithin C)) c.in-Side.is c.requires.way) refl))
    c.passed_none.ensures)

pub returns-in-Fresh-clause-passed : goal.returns-in-Fresh-clause-passed
returns-in-Fresh-clause-passed g c =
    let P = program_of c.args.program.now in
    let w = avoided_of c.args.avoids.now in
    let b : Binding = binding_of c.args.b.now in
    let C : Binding = binding_of c.args.c.now in
    subst (λ (x : Extra). IfOk c.by_fresh.result (λ r. IsPassed P c.args.l.now w (extra_of x) C b (map goal_of r.goals.items)
    (binding_of r.binding))) (sym c.in-Fresh.is)
    (IfOk-weaker c.by_fresh.result _ _
    (λ r e. passed_by P c.args.l.now w _ C b _ _ _ _ e.0 refl
    (fresh_passed P c.args.l.now w c.in-Fresh.name C b (binding_of r.binding) (freshly w b c.in-Fresh.name) refl e.1))
    c.by_fresh.ensures)

use Rattle.std.proofs.Common.{◌≡◌, ◌∙◌, ◌-◌, ◌+◌, zero, suc, sym, subst, arith}
use Rattle.std.specs.Borrow.{Bor}
use Rattle.std.specs.Prelude.{Err}
use Rattle.rdx_term.specs.View.{tree_of}
use Rattle.rdx_lang.specs.ProgramView.{program_of, relation_of}
use Rattle.rdx_lang.specs.declared.program.Program.{Program}
use Rattle.rdx_eval.specs.Views.{program_in}
use Rattle.rdx_reduce.specs.Relations.{AreSteps}
use Rattle.rdx_run.specs.Inside.Turns.{IsLead, SaysLead}
use Rattle.rdx_run.specs.Runs.{rests, fails, branches, is_bound, Runs, most_steps, faulty}
use Rattle.rdx_run.specs.declared.run.Lead.TheVariants.{Rests, Parts, GoesTo}
use Rattle.rdx_run.proofs.Turning.{run-rests, run-parts, run-bound, run-on, handed-on, handed-result}
use Rattle.rdx_run.proofs.run.run_down.Goals as goal

pub returns-in_err-lead_from-clause-end : goal.returns-in_err-lead_from-clause-end
returns-in_err-lead_from-clause-end g c =
    let rel = relation_of c.args.relation.now in
    let R = AreSteps (program_of (program_in c.args.engine.now).now) rel in
    let t = tree_of c.loop.term in
    let T = Runs R most_steps (tree_of c.args.t.now) in
    let x = c.in_err-lead_from.field-0.0 in
    let q : SaysLead (R t) (Err x) =
    subst (λ (p : Bor Program). SaysLead (AreSteps (program_of p.now) rel t) (Err x)) c.loop.invariant.1 c.in_err-lead_from.ensures.lead in
    handed-result T c.from_residual-in_err-lead_from.result x c.from_residual-in_err-lead_from.ensures.1
    (handed-on (R t) T x (λ f h. c.loop.invariant.0 (fails f) (faulty h)) q)

pub returns-in-Rests-clause-end : goal.returns-in-Rests-clause-end
returns-in-Rests-clause-end g c =
    let rel = relation_of c.args.relation.now in
    let R = AreSteps (program_of (program_in c.args.engine.now).now) rel in
    let t = tree_of c.loop.term in
    let q : IsLead (R t) Rests =
    subst (IsLead (R t)) c.in-Rests.is (subst (λ (p : Bor Program). IsLead (AreSteps (program_of p.now) rel t) c.in_ok-lead_from.field-0) c.loop.invariant.1 c.in_ok-lead_from.ensures.lead) in
    c.loop.invariant.0 (rests t) (run-rests R (most_steps - c.loop.counter) t q)

pub returns-in-Parts-clause-end : goal.returns-in-Parts-clause-end
returns-in-Parts-clause-end g c =
    let rel = relation_of c.args.relation.now in
    let R = AreSteps (program_of (program_in c.args.engine.now).now) rel in
    let t = tree_of c.loop.term in
    let q : IsLead (R t) Parts =
    subst (IsLead (R t)) c.in-Parts.is (subst (λ (p : Bor Program). IsLead (AreSteps (program_of p.now) rel t) c.in_ok-lead_from.field-0) c.loop.invariant.1 c.in_ok-lead_from.ensures.lead) in
    c.loop.invariant.0 (branches t) (run-parts R (most_steps - c.loop.counter) t q)

pub loop-preserved : goal.loop-preserved
loop-preserved g c =
    let rel = relation_of c.args.relation.now in
    let R = AreSteps (program_of (program_in c.args.engine.now).now) rel in
    let t = tree_of c.loop.term in
    let u = c.in-GoesTo.next in
    let q : IsLead (R t) (GoesTo u) =
    subst (IsLead (R t)) c.in-GoesTo.is (subst (λ (p : Bor Program). IsLead (AreSteps (program_of p.now) rel t) c.in_ok-lead_from.field-0) c.loop.invariant.1 c.in_ok-lead_from.ensures.lead) in
    let less : suc (most_steps - (c.loop.counter + 1)) ≡ most_steps - c.loop.counter = let h = c.loop-test.true in omega (arith, h) in (
      λ e h. c.loop.invariant.0 e (subst (λ n. Runs R n t e) less (run-on R (most_steps - (c.loop.counter + 1)) t u e q h)),
      c.lead_from.ensures.same ∙ c.loop.invariant.1,
    )

pub returns-in_err-lead_from-2-clause-end : goal.returns-in_err-lead_from-2-clause-end
returns-in_err-lead_from-2-clause-end g c =
    let rel = relation_of c.args.relation.now in
    let R = AreSteps (program_of (program_in c.args.engine.now).now) rel in
    let t = tree_of c.loop.term in
    let T = Runs R most_steps (tree_of c.args.t.now) in
    let x = c.in_err-lead_from-2.field-0.0 in
    let q : SaysLead (R t) (Err x) =
    subst (λ (p : Bor Program). SaysLead (AreSteps (program_of p.now) rel t) (Err x)) c.loop.invariant.1 c.in_err-lead_from-2.ensures.lead in
    handed-result T c.from_residual-in_err-lead_from-2.result x c.from_residual-in_err-lead_from-2.ensures.1
    (handed-on (R t) T x (λ f h. c.loop.invariant.0 (fails f) (faulty h)) q)

pub returns-in-Rests-2-clause-end : goal.returns-in-Rests-2-clause-end
returns-in-Rests-2-clause-end g c =
    let rel = relation_of c.args.relation.now in
    let R = AreSteps (program_of (program_in c.args.engine.now).now) rel in
    let t = tree_of c.loop.term in
    let q : IsLead (R t) Rests =
    subst (IsLead (R t)) c.in-Rests-2.is (subst (λ (p : Bor Program). IsLead (AreSteps (program_of p.now) rel t) c.in_ok-lead_from-2.field-0) c.loop.invariant.1 c.in_ok-lead_from-2.ensures.lead) in
    c.loop.invariant.0 (rests t) (run-rests R (most_steps - c.loop.counter) t q)

pub returns-in-Parts-2-clause-end : goal.returns-in-Parts-2-clause-end
returns-in-Parts-2-clause-end g c =
    let rel = relation_of c.args.relation.now in
    let R = AreSteps (program_of (program_in c.args.engine.now).now) rel in
    let t = tree_of c.loop.term in
    let q : IsLead (R t) Parts =
    subst (IsLead (R t)) c.in-Parts-2.is (subst (λ (p : Bor Program). IsLead (AreSteps (program_of p.now) rel t) c.in_ok-lead_from-2.field-0) c.loop.invariant.1 c.in_ok-lead_from-2.ensures.lead) in
    c.loop.invariant.0 (branches t) (run-parts R (most_steps - c.loop.counter) t q)

pub returns-in-GoesTo-2-clause-end : goal.returns-in-GoesTo-2-clause-end
returns-in-GoesTo-2-clause-end g c =
    let rel = relation_of c.args.relation.now in
    let R = AreSteps (program_of (program_in c.args.engine.now).now) rel in
    let t = tree_of c.loop.term in
    let u = c.in-GoesTo-2.field-0 in
    let q : IsLead (R t) (GoesTo u) =
    subst (IsLead (R t)) c.in-GoesTo-2.is (subst (λ (p : Bor Program). IsLead (AreSteps (program_of p.now) rel t) c.in_ok-lead_from-2.field-0) c.loop.invariant.1 c.in_ok-lead_from-2.ensures.lead) in
    let none : most_steps - c.loop.counter ≡ zero = let h = c.loop-test.false in omega (arith, h) in
    c.loop.invariant.0 is_bound (subst (λ n. Runs R n t is_bound) (sym none) (run-bound R t u q))

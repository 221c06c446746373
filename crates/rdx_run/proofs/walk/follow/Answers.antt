use Rattle.std.proofs.Common.{◌≡◌, ◌∙◌, ◌+◌, [], ◌∷◌, None, length, drop, get_or, map, sym, ap, subst, arith}
use Rattle.std.proofs.lemmas.List.{length-map, drop_all, drop_more}
use Rattle.std.specs.Borrow.{Bor}
use Rattle.std.specs.Prelude.{Ok, Err, option_map}
use Rattle.rdx_term.specs.Tree.{Tree}
use Rattle.rdx_term.specs.View.{tree_of}
use Rattle.rdx_lang.specs.ProgramView.{program_of, relation_of}
use Rattle.rdx_lang.specs.declared.program.Program.{Program}
use Rattle.rdx_eval.specs.Views.{fault_of, program_in}
use Rattle.rdx_reduce.specs.Relations.{AreSteps}
use Rattle.rdx_reduce.specs.StepView.{step_of, steps_in}
use Rattle.rdx_reduce.specs.Steps.{Step}
use Rattle.rdx_run.specs.Inside.Turns.{IsTurn}
use Rattle.rdx_run.specs.Views.{states_of}
use Rattle.rdx_run.specs.Walks.{Walk, done, no_such_reduct, stopped, chosen, at_once, behind, Walks, stops, ends, lacks, goes_on}
use Rattle.rdx_run.specs.declared.walk.State.{State}
use Rattle.rdx_run.proofs.Turning.{after, after-none, after-pushed, after-both, none-chosen, Chosen, some-chosen}
use Rattle.rdx_run.proofs.walk.follow.Goals as goal

pub returns-in-Err-clause-walk : goal.returns-in-Err-clause-walk
returns-in-Err-clause-walk g c =
    let rel = relation_of c.args.relation.now in
    let R = AreSteps (program_of (program_in c.args.engine.now).now) rel in
    let t = tree_of c.loop-choice.term in
    let ss = states_of c.loop-choice.states.items in
    let cs = c.args.choices.now in
    let i = c.loop-choice.choice-index in
    let q : IsTurn (R t) (Err c.in-Err.fault) =
    subst (IsTurn (R t)) c.in-Err.is (subst (λ (p : Bor Program). IsTurn (AreSteps (program_of p.now) rel t) c.in_ok-steps.field-0) c.loop-choice.invariant.1 c.in_ok-steps.ensures.turn) in
    let e = stopped t (fault_of c.in-Err.fault) in
    subst (Walks R (tree_of c.args.t.now) cs) (after-none ss e) (c.loop-choice.invariant.0 (record { states = []; end = e }) (stops q))

pub returns-in-None-clause-walk : goal.returns-in-None-clause-walk
returns-in-None-clause-walk g c =
    let rel = relation_of c.args.relation.now in
    let R = AreSteps (program_of (program_in c.args.engine.now).now) rel in
    let t = tree_of c.loop-choice.term in
    let vs = c.loop-choice.states.items in
    let cs = c.args.choices.now in
    let i = c.loop-choice.choice-index in
    let k = get_or cs i 0 in
    let us = steps_in c.in-Ok.steps in
    let q : IsTurn (R t) (Ok c.in-Ok.steps) =
    subst (IsTurn (R t)) c.in-Ok.is (subst (λ (p : Bor Program). IsTurn (AreSteps (program_of p.now) rel t) c.in_ok-steps.field-0) c.loop-choice.invariant.1 c.in_ok-steps.ensures.turn) in
    let reduct : Step → Tree = λ s. s.reduct in
    let none : chosen k us ≡ None =
    none-chosen _ (sym (ap (λ us. option_map reduct (chosen k (map step_of us))) c.deref.ensures.value) ∙ sym c.in_ok-next.ensures ∙ ap (option_map tree_of) c.in-None.is) in
    let number : length us ≡ c.len-number.result = length-map c.in-Ok.steps.items step_of ∙ sym c.in-Ok.steps.ok.0 ∙ sym c.len-number.ensures in
    let e = no_such_reduct k c.len-number.result in
    let w : Walk = record { states = record { term = t; steps = us } ∷ []; end = e } in
    let walks : Walks R t (drop i cs) w =
    subst (λ ks. Walks R t ks w) (sym (drop_more cs i 0 c.loop-choice-test.true))
    (subst (λ n. Walks R t (k ∷ drop (i + 1) cs) (at_once t us (no_such_reduct k n))) number (lacks q none)) in
    subst (Walks R (tree_of c.args.t.now) cs)
    (after-pushed vs (record { term = c.loop-choice.term; steps = c.in-Ok.steps }) e ∙ ap (λ us. record { states = states_of us; end = e }) (sym c.in_ok-push-in-None.ensures.items))
    (c.loop-choice.invariant.0 w walks)

pub loop-choice-preserved : goal.loop-choice-preserved
loop-choice-preserved g c =
    let rel = relation_of c.args.relation.now in
    let R = AreSteps (program_of (program_in c.args.engine.now).now) rel in
    let t = tree_of c.loop-choice.term in
    let vs = c.loop-choice.states.items in
    let cs = c.args.choices.now in
    let i = c.loop-choice.choice-index in
    let k = get_or cs i 0 in
    let us = steps_in c.in-Ok.steps in
    let q : IsTurn (R t) (Ok c.in-Ok.steps) =
    subst (IsTurn (R t)) c.in-Ok.is (subst (λ (p : Bor Program). IsTurn (AreSteps (program_of p.now) rel t) c.in_ok-steps.field-0) c.loop-choice.invariant.1 c.in_ok-steps.ensures.turn) in
    let reduct : Step → Tree = λ s. s.reduct in
    let some : Chosen (chosen k us) (tree_of c.in-Some.next) =
    some-chosen _ _ (sym (ap (λ us. option_map reduct (chosen k (map step_of us))) c.deref.ensures.value) ∙ sym c.in_ok-next.ensures ∙ ap (option_map tree_of) c.in-Some.is) in
    let here : State = record { term = c.replace-term.result; steps = c.in-Ok.steps } in
    let on : (w : Walk) → Walks R (tree_of c.in-Some.next) (drop (i + 1) cs) w → Walks R t (drop i cs) (behind t us w) =
    λ w h. subst (λ ks. Walks R t ks (behind t us w)) (sym (drop_more cs i 0 c.loop-choice-test.true))
    (goes_on q some.is (subst (λ u. Walks R u (drop (i + 1) cs) w) (sym some.leads) h)) in (
      λ w h. subst (Walks R (tree_of c.args.t.now) cs)
          (ap (λ x. after (states_of vs) (behind (tree_of x) us w)) (sym c.replace-term.ensures.value) ∙ sym (after-both vs here w) ∙ ap (λ us. after (states_of us) w) (sym c.in_ok-push-in-Some.ensures.items))
          (c.loop-choice.invariant.0 (behind t us w) (on w (subst (λ x. Walks R (tree_of x) (drop (i + 1) cs) w) c.replace-term.ensures.after h))),
      c.in_ok-steps.ensures.same ∙ c.loop-choice.invariant.1,
    )

pub returns-in_ok-push-in-Ok-2-clause-walk : goal.returns-in_ok-push-in-Ok-2-clause-walk
returns-in_ok-push-in-Ok-2-clause-walk g c =
    let rel = relation_of c.args.relation.now in
    let R = AreSteps (program_of (program_in c.args.engine.now).now) rel in
    let t = tree_of c.loop-choice.term in
    let vs = c.loop-choice.states.items in
    let cs = c.args.choices.now in
    let i = c.loop-choice.choice-index in
    let us = steps_in c.in-Ok-2.steps in
    let q : IsTurn (R t) (Ok c.in-Ok-2.steps) =
    subst (IsTurn (R t)) c.in-Ok-2.is (subst (λ (p : Bor Program). IsTurn (AreSteps (program_of p.now) rel t) c.in_ok-steps-2.field-0) c.loop-choice.invariant.1 c.in_ok-steps-2.ensures.turn) in
    let w = at_once t us done in
    let walks : Walks R t (drop i cs) w = subst (λ ks. Walks R t ks w) (sym (drop_all i cs (omega (arith, c.loop-choice-test.false)))) (ends q) in
    subst (Walks R (tree_of c.args.t.now) cs)
    (after-pushed vs (record { term = c.loop-choice.term; steps = c.in-Ok-2.steps }) done ∙ ap (λ us. record { states = states_of us; end = done }) (sym c.in_ok-push-in-Ok-2.ensures.items))
    (c.loop-choice.invariant.0 w walks)

pub returns-in-Err-2-clause-walk : goal.returns-in-Err-2-clause-walk
returns-in-Err-2-clause-walk g c =
    let rel = relation_of c.args.relation.now in
    let R = AreSteps (program_of (program_in c.args.engine.now).now) rel in
    let t = tree_of c.loop-choice.term in
    let ss = states_of c.loop-choice.states.items in
    let cs = c.args.choices.now in
    let i = c.loop-choice.choice-index in
    let q : IsTurn (R t) (Err c.in-Err-2.fault) =
    subst (IsTurn (R t)) c.in-Err-2.is (subst (λ (p : Bor Program). IsTurn (AreSteps (program_of p.now) rel t) c.in_ok-steps-2.field-0) c.loop-choice.invariant.1 c.in_ok-steps-2.ensures.turn) in
    let e = stopped t (fault_of c.in-Err-2.fault) in
    subst (Walks R (tree_of c.args.t.now) cs) (after-none ss e) (c.loop-choice.invariant.0 (record { states = []; end = e }) (stops q))

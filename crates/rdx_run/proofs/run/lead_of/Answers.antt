use Rattle.std.proofs.Common.{◌≡◌, ◌<◌, ◌≤◌, length, true, arith, sym, subst}
use Rattle.rdx_lang.proofs.Rest.{rest_none}
use Rattle.rdx_term.specs.View.{tree_of}
use Rattle.rdx_reduce.specs.StepView.{step_of}
use Rattle.rdx_run.specs.Runs.{AllLead}
use Rattle.rdx_run.proofs.Leading.{lead-from, none-lead, differ-at, goes-to}
use Rattle.rdx_run.proofs.run.lead_of.Goals as goal

pub returns-then-not-same : goal.returns-then-not-same
returns-then-not-same c =
    let ss = c.args.steps.now in
    let l : 0 < length ss = let k = c.in-len1-up.len_at_least in omega (arith, k) in
    differ-at ss c.loop-step.step-index c.first-item.result c.step-item.result l c.first-item.is c.loop-step-test.true c.step-item.is
    (λ e. let r : c.same.result ≡ true = c.same.ensures.1 e in let n = c.if-not-same.true in absurd cc)

pub loop-step-preserved : goal.loop-step-preserved
loop-step-preserved c =
    let ss = c.args.steps.now in
    λ k. c.loop-step.invariant
    (lead-from (tree_of c.first-item.result.reduct) ss c.loop-step.step-index c.step-item.result c.loop-step-test.true c.step-item.is (c.same.ensures.0 c.if-not-same.false) k)

pub returns : goal.returns
returns c =
    let ss = c.args.steps.now in
    let u = tree_of c.first-item.result.reduct in
    let l : 0 < length ss = let k = c.in-len1-up.len_at_least in omega (arith, k) in
    let h : length ss ≤ c.loop-step.step-index = let k = c.loop-step-test.false in omega (arith, k) in
    goes-to ss c.first-item.result c.in_ok-share.field-0 l c.first-item.is c.in_ok-share.ensures
    (c.loop-step.invariant (subst (AllLead u) (sym (rest_none step_of ss c.loop-step.step-index h)) (none-lead u)))

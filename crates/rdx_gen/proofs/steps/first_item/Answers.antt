use Rattle.std.proofs.Common.{arith, ◌≡◌, ◌+◌, ◌-◌, map}
use Rattle.rdx_lang.specs.PatternView.{slot_of}
use Rattle.rdx_gen.specs.Views.{state_of, terms_in}
use Rattle.rdx_gen.proofs.ListSteps.{leads_nowhere, leads_behind, leads_ahead}
use Rattle.rdx_gen.proofs.steps.first_item.Goals as goal

pub returns-in-Nowhere-clause-leads : goal.returns-in-Nowhere-clause-leads
returns-in-Nowhere-clause-leads c =
    leads_nowhere c.args.setting.now c.args.row.scope (map slot_of c.args.row.rest.now) (terms_in c.args.row.found) (state_of c.args.state.now)
    c.args.row.spot (slot_of c.args.first.now) c.item.result _ c.in-Nowhere.is c.item.ensures.leads

pub returns-in-Behind-clause-leads : goal.returns-in-Behind-clause-leads
returns-in-Behind-clause-leads c =
    leads_behind c.args.setting.now c.args.row.scope (map slot_of c.args.row.rest.now) (terms_in c.args.row.found) (state_of c.args.state.now)
    c.args.row.spot _ (slot_of c.args.first.now) c.item-in-Behind.result _ c.in-Behind.is c.item-in-Behind.ensures.leads

pub returns-in-Ahead-clause-leads : goal.returns-in-Ahead-clause-leads
returns-in-Ahead-clause-leads c =
    let l : (c.in-Ahead.k - 1) + 1 ≡ c.in-Ahead.k = omega (arith, c.if-k-eq0.false) in
    leads_ahead c.args.setting.now c.args.row.scope (map slot_of c.args.row.rest.now) (terms_in c.args.row.found) (state_of c.args.state.now)
    c.args.row.spot c.in-Ahead.k (c.in-Ahead.k - 1) (slot_of c.args.first.now) c.item-in-Ahead.result _ c.in-Ahead.is l c.item-in-Ahead.ensures.leads

use Rattle.std.proofs.Common.{◌≡◌, ◌∙◌, ap, sym, subst}
use Rattle.std.specs.Prelude.{IfOk, Option, option_map}
use Rattle.rdx_patterns.specs.Refusal.{Refusal, refusal_of}
use Rattle.rdx_defs.specs.Inside.BareForms as bare_stands
use Rattle.rdx_defs.specs.Inside.FormOutlines.{question_outline}
use Rattle.rdx_templates.specs.Scope.{scope_of}
use Rattle.rdx_parts.specs.Outlines.{Outline}
use Rattle.rdx_parts.specs.FormRefusals.{form_refusal}
use Rattle.rdx_parts.specs.PartViews.{outline_of, stands_of}
use Rattle.rdx_parts.specs.PartsHave.{OutlineHas, can_bind}
use Rattle.rdx_defs.proofs.FormRefusals.{question-refused}
use Rattle.rdx_defs.proofs.PassedForms.{question-early}
use Rattle.rdx_defs.proofs.judgements.refusals.refuse_question.Goals as goal

pub refuse_parts-requires : goal.refuse_parts-requires
refuse_parts-requires c =
    let S = scope_of c.args.scope.now in
    let d = c.args.premise.now in
    let t = option_map (λ x. x.now) c.args.behind in
    let q : stands_of c.deref.result.now ≡ bare_stands.question_stands S d t = ap stands_of c.deref.ensures.value ∙ c.in_ok-found.ensures in
    λ e. subst (λ (o : Outline). OutlineHas S (can_bind c.args.names.now) o) (sym c.in_ok-outline.ensures)
    (question-early S c.args.names.now d t (stands_of c.deref.result.now) c.requires.premise c.requires.behind q e)

pub returns : goal.returns
returns c =
    let S = scope_of c.args.scope.now in
    let ns = c.args.names.now in
    let d = c.args.premise.now in
    let t = option_map (λ x. x.now) c.args.behind in
    let q : stands_of c.deref.result.now ≡ bare_stands.question_stands S d t = ap stands_of c.deref.ensures.value ∙ c.in_ok-found.ensures in
    let o : outline_of c.in_ok-outline.outline ≡ question_outline d t = c.in_ok-outline.ensures in
    subst (λ (r : Option Refusal). IfOk c.refuse_parts.result (λ x. option_map refusal_of x ≡ r)) ((λ i. form_refusal S ns (q i) (o i)) ∙ sym (question-refused S ns d t)) c.refuse_parts.ensures

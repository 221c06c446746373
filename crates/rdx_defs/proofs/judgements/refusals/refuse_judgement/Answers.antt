use Rattle.std.proofs.Common.{◌≡◌, ◌∙◌, Some, ap, sym, subst}
use Rattle.std.proofs.lemmas.Result.{IfOk-weaker}
use Rattle.std.specs.Prelude.{option_map}
use Rattle.rdx_patterns.specs.Refusal.{refusal_of}
use Rattle.rdx_patterns.specs.Readable.{IsReadable}
use Rattle.rdx_defs.specs.Inside.BareForms as bare_stands
use Rattle.rdx_defs.specs.Inside.FormOutlines.{judgement_outline}
use Rattle.rdx_parts.specs.Outlines.{Outline}
use Rattle.rdx_parts.specs.FormRefusals.{form_refusal}
use Rattle.rdx_defs.specs.Inside.FormViews.{judgement_form_of}
use Rattle.rdx_templates.specs.Scope.{scope_of}
use Rattle.rdx_parts.specs.PartViews.{outline_of, stands_of}
use Rattle.rdx_parts.specs.PartsHave.{OutlineHas, can_bind, IsReadableTaken}
use Rattle.rdx_defs.specs.JudgementStands.{judgement_stands}
use Rattle.rdx_parts.specs.StandRefusal.{stands_refusal}
use Rattle.rdx_defs.proofs.FormRefusals.{judgement-refused, rules-refused}
use Rattle.rdx_defs.proofs.PassedForms.{judgement-early}
use Rattle.rdx_defs.proofs.InheritedParts.{judgement-has, judgement_outline-has}
use Rattle.rdx_relations.proofs.ReadableParts.{readable-inherited}
use Rattle.rdx_defs.proofs.judgements.refusals.refuse_judgement.Goals as goal

pub judgement_outline-requires : goal.judgement_outline-requires
judgement_outline-requires c = c.requires.mode

pub judgement_stands-requires-clause-mode : goal.judgement_stands-requires-clause-mode
judgement_stands-requires-clause-mode c = c.requires.mode

pub judgement_stands-requires-clause-parts : goal.judgement_stands-requires-clause-parts
judgement_stands-requires-clause-parts c =
    let f = judgement_form_of c.args.form in
    judgement_outline-has IsReadable IsReadableTaken readable-inherited (scope_of c.args.scope.now) f (judgement-has IsReadable IsReadableTaken readable-inherited c.args.d.now f c.requires.readable c.requires.form)

pub refuse_parts-requires : goal.refuse_parts-requires
refuse_parts-requires c =
    let S = scope_of c.args.scope.now in
    let f = judgement_form_of c.args.form in
    let q : stands_of c.deref.result.now ≡ bare_stands.judgement_stands S c.args.d.now f = ap stands_of c.deref.ensures.value ∙ c.in_ok-found.ensures in
    λ e. subst (λ (o : Outline). OutlineHas S (can_bind c.args.names.now) o) (sym c.in_ok-outline.ensures)
    (judgement-early S c.args.names.now c.args.d.now f (stands_of c.deref.result.now) c.requires.readable c.requires.form q e)

pub returns : goal.returns
returns c =
    let S = scope_of c.args.scope.now in
    let ns = c.args.names.now in
    let f = judgement_form_of c.args.form in
    let q : stands_of c.deref.result.now ≡ bare_stands.judgement_stands S c.args.d.now f = ap stands_of c.deref.ensures.value ∙ c.in_ok-found.ensures in
    let o : outline_of c.in_ok-outline.outline ≡ judgement_outline f = c.in_ok-outline.ensures in
    let ss = judgement_stands S ns c.args.d.now (Some f) in
    let e : option_map refusal_of c.in_ok-refusal.refusal ≡ stands_refusal S ns ss =
    c.in_ok-refusal.ensures ∙ (λ i. form_refusal S ns (q i) (o i)) ∙ sym (rules-refused S ns c.args.d.now f) in
    IfOk-weaker c.refuse_over.result _ _ (λ x h. h S ns ss e ∙ sym (judgement-refused S ns c.args.d.now f c.requires.form)) c.refuse_over.ensures

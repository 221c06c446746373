use Rattle.std.proofs.Common.{◌≡◌, ◌∙◌, Option, None, IfOk, sym, ap, subst}
use Rattle.std.specs.Prelude.{option_map}
use Rattle.rdx_patterns.specs.Refusal.{Refusal, refusal_of}
use Rattle.rdx_templates.specs.Earliest.{earliest, start}
use Rattle.rdx_templates.specs.Inside.PartRefusal.{late_refusal}
use Rattle.rdx_templates.specs.Inside.PartView.{parts_of, unrepeated}
use Rattle.rdx_templates.specs.Scope.{scope_of}
use Rattle.rdx_templates.specs.TemplateChecks.{undriven_parts}
use Rattle.rdx_templates.specs.TemplateOccurrences.{template_parts}
use Rattle.rdx_templates.specs.TemplateRefusal.{template_refusal}
use Rattle.rdx_templates.specs.TemplateShapes.{template_shapes}
use Rattle.rdx_templates.proofs.Unrepeated.{refused_late}
use Rattle.rdx_templates.proofs.templates.refusals.refuse_template.Goals as goal

pub returns : goal.returns
returns c =
    let S = scope_of c.args.scope.now in
    let bs = c.args.bound.now in
    let d = c.args.d.now in
    let ps = template_parts S bs 0 d in
    let shaped : earliest start (template_shapes d) ≡ None = sym c.shape_in_template.ensures ∙ ap (option_map (λ x. x.now)) c.in_default.is in
    let all = refused_late S bs (template_shapes d) ps in
    let late : late_refusal bs (earliest start (undriven_parts S bs ps)) (unrepeated ps) ≡ template_refusal S bs d = cc in
    let found : parts_of c.deref.result.now ≡ unrepeated ps = ap parts_of c.deref.ensures.value ∙ c.in_ok-found.ensures in
    let e = (λ i. late_refusal bs (c.driving_of.ensures.undriven i) (found i)) ∙ late in
    subst (λ (q : Option Refusal). IfOk c.refuse_late.result (λ r. option_map refusal_of r ≡ q)) e c.refuse_late.ensures

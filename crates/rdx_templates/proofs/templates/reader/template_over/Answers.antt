use Rattle.std.proofs.Common.{◌≡◌, ◌∙◌, None, true, ap, sym, subst}
use Rattle.std.specs.Prelude.{option_map}
use Rattle.rdx_lang.specs.Fitting.{fits}
use Rattle.rdx_lang.specs.Templates.{Template}
use Rattle.rdx_patterns.specs.Refusal.{refusal_of}
use Rattle.rdx_templates.specs.Bound.{is_bound}
use Rattle.rdx_templates.specs.Scope.{has_metafunction, scope_of}
use Rattle.rdx_templates.specs.TemplateRefusal.{template_refusal}
use Rattle.rdx_templates.proofs.Fitting.{passed-fits}
use Rattle.rdx_templates.proofs.templates.reader.template_over.Goals as goal

pub returns-clause-fits : goal.returns-clause-fits
returns-clause-fits c =
    let S = scope_of c.args.scope.now in
    let bs = c.args.bound.now in
    let d = c.args.d.now in
    let r : option_map refusal_of c.in_ok-refusal.field-0 ≡ template_refusal S bs d = c.in_ok-refusal.ensures in
    let n : template_refusal S bs d ≡ None = sym r ∙ ap (option_map refusal_of) c.in_default.is in
    subst (λ (t : Template). fits (has_metafunction S) (is_bound bs) 0 t ≡ true) (sym c.in_ok-read_datum.ensures) (passed-fits S bs d n)

use Rattle.std.proofs.Common.{◌∙◌, ap}
use Rattle.rdx_templates.specs.Earliest.{earliest, start}
use Rattle.rdx_templates.specs.Inside.PartView.{parts_of}
use Rattle.rdx_templates.specs.Scope.{scope_of}
use Rattle.rdx_templates.specs.TemplateChecks.{escapes}
use Rattle.rdx_templates.specs.TemplateOccurrences.{template_parts}
use Rattle.rdx_templates.proofs.Unrepeated.{escapes_unrepeated}
use Rattle.rdx_templates.proofs.templates.places.escape_in_template.Goals as goal

pub returns : goal.returns
returns c =
    let found = ap parts_of c.deref.ensures.value ∙ c.in_ok-found.ensures in
    let ps = template_parts (scope_of c.args.scope.now) c.args.bound.now 0 c.args.d.now in
    c.earliest_escape.ensures ∙ (ap (λ xs. earliest start (escapes xs)) found ∙ ap (earliest start) (escapes_unrepeated ps))

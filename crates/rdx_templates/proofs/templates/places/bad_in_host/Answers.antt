use Rattle.std.proofs.Common.{◌∙◌, ap}
use Rattle.rdx_templates.specs.Earliest.{earliest, start}
use Rattle.rdx_templates.specs.Inside.PartView.{parts_of}
use Rattle.rdx_templates.specs.Scope.{scope_of}
use Rattle.rdx_templates.specs.TemplateChecks.{bad_parts}
use Rattle.rdx_templates.specs.TemplateOccurrences.{host_parts}
use Rattle.rdx_templates.proofs.Unrepeated.{bad_unrepeated}
use Rattle.rdx_templates.proofs.templates.places.bad_in_host.Goals as goal

pub returns : goal.returns
returns c =
    let found = ap parts_of c.deref.ensures.value ∙ c.in_ok-found.ensures in
    let ps = host_parts (scope_of c.args.scope.now) c.args.bound.now 0 c.args.d.now in
    c.earliest_bad_part.ensures ∙ (ap (λ xs. earliest start (bad_parts xs)) found ∙ ap (earliest start) (bad_unrepeated ps))

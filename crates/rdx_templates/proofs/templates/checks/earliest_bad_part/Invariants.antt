use Rattle.std.proofs.Common.{◌≡◌, drop}
use Rattle.std.specs.Prelude.{option_map}
use Rattle.rdx_templates.specs.Earliest.{earliest, lesser, start}
use Rattle.rdx_templates.specs.Inside.PartView.{parts_of}
use Rattle.rdx_templates.specs.TemplateChecks.{bad_parts}
use Rattle.rdx_templates.proofs.templates.checks.earliest_bad_part.Given as goal

abbrev pub invariant-loop-part : goal.invariant-loop-part
invariant-loop-part l =
    lesser start (option_map (λ d. d.now) l.place) (earliest start (bad_parts (parts_of (drop l.part-index l.found)))) ≡ earliest start (bad_parts (parts_of l.found))

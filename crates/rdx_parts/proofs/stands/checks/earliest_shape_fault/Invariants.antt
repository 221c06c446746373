use Rattle.std.proofs.Common.{◌≡◌, drop}
use Rattle.std.specs.Prelude.{option_map}
use Rattle.rdx_templates.specs.Earliest.{start, lesser, earliest}
use Rattle.rdx_parts.specs.PartViews.{stands_of}
use Rattle.rdx_parts.specs.StandChecks.{shape_faults}
use Rattle.rdx_parts.proofs.stands.checks.earliest_shape_fault.Given as goal

abbrev pub invariant-loop-s : goal.invariant-loop-s
invariant-loop-s l =
    lesser start (option_map (λ d. d.now) l.place) (earliest start (shape_faults (stands_of (drop l.s-index l.found))))
    ≡ earliest start (shape_faults (stands_of l.found))

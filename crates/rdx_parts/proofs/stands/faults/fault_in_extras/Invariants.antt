use Rattle.std.proofs.Common.{◌≡◌, drop}
use Rattle.std.specs.Prelude.{option_map}
use Rattle.rdx_templates.specs.Earliest.{start, lesser, earliest}
use Rattle.rdx_templates.specs.Scope.{scope_of}
use Rattle.rdx_parts.specs.ByNames.{extras_faults}
use Rattle.rdx_parts.specs.PartViews.{place_of}
use Rattle.rdx_parts.proofs.stands.faults.fault_in_extras.Given as goal

abbrev pub invariant-loop-d : goal.invariant-loop-d
invariant-loop-d l =
    lesser start (option_map (λ d. d.now) l.fault) (earliest start (extras_faults (place_of l.place) l.check (scope_of l.scope) l.names l.bound (drop l.d-index l.extras)))
    ≡ earliest start (extras_faults (place_of l.place) l.check (scope_of l.scope) l.names l.fn.bound l.extras)

use Rattle.std.proofs.Common.{◌≡◌, drop}
use Rattle.std.specs.Prelude.{option_map}
use Rattle.rdx_templates.specs.Earliest.{start, lesser, earliest}
use Rattle.rdx_templates.specs.Scope.{scope_of}
use Rattle.rdx_parts.specs.PartViews.{stands_of}
use Rattle.rdx_parts.specs.StandChecks.{unknown_names}
use Rattle.rdx_parts.proofs.stands.checks.earliest_unknown_name.Given as goal

abbrev pub invariant-loop-s : goal.invariant-loop-s
invariant-loop-s l =
    lesser start (option_map (λ d. d.now) l.place) (earliest start (unknown_names (scope_of l.scope) (stands_of (drop l.s-index l.found))))
    ≡ earliest start (unknown_names (scope_of l.scope) (stands_of l.found))

use Rattle.std.proofs.Common.{◌≡◌, ◌++◌, drop}
use Rattle.rdx_templates.specs.Scope.{scope_of}
use Rattle.rdx_parts.specs.ByNames.{extras_names}
use Rattle.rdx_parts.specs.PartViews.{place_of}
use Rattle.rdx_parts.proofs.stands.names.add_extras_names.Given as goal

abbrev pub invariant-loop-d : goal.invariant-loop-d
invariant-loop-d l =
    l.out ++ extras_names (place_of l.place) (scope_of l.scope) l.names (drop l.d-index l.extras)
    ≡ l.fn.out ++ extras_names (place_of l.place) (scope_of l.scope) l.names l.extras

use Rattle.std.proofs.Common.{◌≡◌, ◌++◌, drop}
use Rattle.rdx_lang.specs.ProgramView.{extras_of}
use Rattle.rdx_templates.specs.Scope.{scope_of}
use Rattle.rdx_parts.specs.ByNames.{extras_reading}
use Rattle.rdx_parts.specs.PartViews.{place_of}
use Rattle.rdx_parts.proofs.stands.readings.read_extras.Given as goal

abbrev pub invariant-loop-d : goal.invariant-loop-d
invariant-loop-d l =
    extras_of l.read.items ++ extras_reading (place_of l.place) (scope_of l.scope) l.names l.bound (drop l.d-index l.extras)
    ≡ extras_reading (place_of l.place) (scope_of l.scope) l.names l.fn.bound l.extras

use Rattle.std.proofs.Common.{◌≡◌, ◌++◌, drop}
use Rattle.rdx_templates.specs.Scope.{scope_of}
use Rattle.rdx_parts.specs.BareStands.{extras_stand}
use Rattle.rdx_parts.specs.PartViews.{place_of, stands_of}
use Rattle.rdx_parts.proofs.stands.collecting.add_extras.Given as goal

abbrev pub invariant-loop-d : goal.invariant-loop-d
invariant-loop-d l =
    stands_of l.out.items ++ extras_stand (place_of l.place) (scope_of l.scope) l.again (drop l.d-index l.extras)
    ≡ stands_of l.fn.out.items ++ extras_stand (place_of l.place) (scope_of l.scope) l.fn.again l.extras

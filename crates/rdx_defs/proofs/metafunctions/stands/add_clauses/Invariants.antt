use Rattle.std.proofs.Common.{◌≡◌, ◌++◌, drop}
use Rattle.rdx_defs.specs.Inside.BareForms.{clauses_stand}
use Rattle.rdx_templates.specs.Scope.{scope_of}
use Rattle.rdx_parts.specs.PartViews.{stands_of}
use Rattle.rdx_defs.proofs.metafunctions.stands.add_clauses.Given as goal

abbrev pub invariant-loop-d : goal.invariant-loop-d
invariant-loop-d l =
    stands_of l.out.items ++ clauses_stand (scope_of l.scope) l.name (drop l.d-index l.clauses)
    ≡ stands_of l.fn.out.items ++ clauses_stand (scope_of l.scope) l.name l.clauses

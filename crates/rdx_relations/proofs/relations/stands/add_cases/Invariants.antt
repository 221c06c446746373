use Rattle.std.proofs.Common.{◌≡◌, ◌++◌, drop}
use Rattle.rdx_relations.specs.Inside.BareForms.{cases_stand}
use Rattle.rdx_templates.specs.Scope.{scope_of}
use Rattle.rdx_parts.specs.PartViews.{stands_of}
use Rattle.rdx_relations.proofs.relations.stands.add_cases.Given as goal

abbrev pub invariant-loop-d : goal.invariant-loop-d
invariant-loop-d l =
    stands_of l.out.items ++ cases_stand (scope_of l.scope) (drop l.d-index l.cases) ≡ stands_of l.fn.out.items ++ cases_stand (scope_of l.scope) l.cases

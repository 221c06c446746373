use Rattle.std.proofs.Common.{◌≡◌, ◌++◌, drop, map}
use Rattle.rdx_relations.specs.Inside.FormOutlines.{case_branches}
use Rattle.rdx_parts.specs.PartViews.{branch_of}
use Rattle.rdx_relations.proofs.relations.stands.case_branches.Given as goal

abbrev pub invariant-loop-d : goal.invariant-loop-d
invariant-loop-d l = map branch_of l.branches.items ++ case_branches (drop l.d-index l.cases) ≡ case_branches l.cases

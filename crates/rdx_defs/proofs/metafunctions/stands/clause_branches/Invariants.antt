use Rattle.std.proofs.Common.{◌≡◌, ◌++◌, drop, map}
use Rattle.rdx_defs.specs.Inside.FormOutlines.{clause_branches}
use Rattle.rdx_parts.specs.PartViews.{branch_of}
use Rattle.rdx_defs.proofs.metafunctions.stands.clause_branches.Given as goal

abbrev pub invariant-loop-d : goal.invariant-loop-d
invariant-loop-d l = map branch_of l.branches.items ++ clause_branches l.name (drop l.d-index l.clauses) ≡ clause_branches l.name l.clauses

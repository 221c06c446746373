use Rattle.std.proofs.Common.{◌≡◌, ◌++◌, drop, map}
use Rattle.rdx_lang.specs.ProgramView.{clauses_of}
use Rattle.rdx_defs.specs.Inside.BranchReadings.{branch_clauses}
use Rattle.rdx_templates.specs.Scope.{scope_of}
use Rattle.rdx_parts.specs.PartViews.{branch_of}
use Rattle.rdx_defs.proofs.metafunctions.readings.read_clauses.Given as goal

abbrev pub invariant-loop-branch : goal.invariant-loop-branch
invariant-loop-branch l =
    clauses_of l.clauses.items ++ branch_clauses (scope_of l.scope) l.names (map branch_of (drop l.branch-index l.branches))
    ≡ branch_clauses (scope_of l.scope) l.names (map branch_of l.branches)

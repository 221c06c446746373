use Rattle.std.proofs.Common.{◌≡◌, drop, map}
use Rattle.std.specs.Prelude.{option_map}
use Rattle.rdx_templates.specs.Earliest.{start, lesser, earliest}
use Rattle.rdx_templates.specs.Scope.{scope_of}
use Rattle.rdx_parts.specs.ByNames.{branches_faults}
use Rattle.rdx_parts.specs.PartViews.{branch_of}
use Rattle.rdx_parts.proofs.stands.faults.fault_in_branches.Given as goal

abbrev pub invariant-loop-branch : goal.invariant-loop-branch
invariant-loop-branch l =
    lesser start (option_map (λ d. d.now) l.fault) (earliest start (branches_faults l.check (scope_of l.scope) l.names (map branch_of (drop l.branch-index l.branches))))
    ≡ earliest start (branches_faults l.check (scope_of l.scope) l.names (map branch_of l.branches))

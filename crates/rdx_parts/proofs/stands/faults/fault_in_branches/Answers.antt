use Rattle.rdx_templates.specs.Scope.{scope_of}
use Rattle.rdx_parts.specs.PartViews.{branch_of}
use Rattle.rdx_parts.specs.PartsHave.{can_bind}
use Rattle.rdx_parts.proofs.PartsAt.{branches-at}
use Rattle.rdx_parts.proofs.stands.faults.fault_in_branches.Goals as goal

pub fault_in_branch-requires : goal.fault_in_branch-requires
fault_in_branch-requires c =
    branches-at (scope_of c.args.scope.now) (can_bind c.args.names.now) branch_of c.args.branches.now c.loop-branch.branch-index c.branch-item.result c.loop-branch-test.true c.branch-item.is c.requires

use Rattle.std.proofs.Common.{◌≡◌, drop}
use Rattle.rdx_delta.specs.Operations.{operations, operation_among, operation_named}
use Rattle.rdx_delta.proofs.operations.operation_named.Given as goal

abbrev pub invariant-loop-op : goal.invariant-loop-op
invariant-loop-op l = operation_among (drop l.op-index operations) l.text ≡ operation_named l.text

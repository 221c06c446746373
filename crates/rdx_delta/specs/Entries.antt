-- The operations of entries, whatever functions do them.
use Rattle.std.specs.Prelude.{List, map}
use Rattle.rdx_lang.specs.declared.operation.HostOp.{HostOp}
use Rattle.rdx_delta.specs.declared.entry.HostEntry.{HostEntry}

-- the operation of an entry
abbrev pub operation_in : {f g : _} → HostEntry f g → HostOp
operation_in e = e.op

-- the operations of entries, in their order
abbrev pub operations_in : {f g : _} → List (HostEntry f g) → List HostOp
operations_in es = map (λ e. e.op) es

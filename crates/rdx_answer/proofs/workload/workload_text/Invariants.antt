use Rattle.std.proofs.Common.{◌≡◌, ◌++◌}
use Rattle.rdx_answer.specs.Workload as model
use Rattle.rdx_answer.proofs.workload.workload_text.Given as goal

abbrev pub invariant-loop-k : goal.invariant-loop-k
invariant-loop-k l = l.out.items ≡ model.definitions ++ model.tests l.k

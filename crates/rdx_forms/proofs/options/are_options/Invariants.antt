use Rattle.std.proofs.Common.{◌≡◌, length}
use Rattle.rdx_forms.specs.Options as model
use Rattle.rdx_forms.proofs.options.are_options.Given as goal

abbrev pub invariant-loop-rest : goal.invariant-loop-rest
invariant-loop-rest l = model.are_pairs l.rest ≡ model.are_pairs l.fn.items

abbrev pub decreases-loop-rest : goal.decreases-loop-rest
decreases-loop-rest l = length l.rest

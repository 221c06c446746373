use Rattle.std.proofs.Common.{◌≡◌, drop}
use Rattle.rdx_deriv.specs.Inside.Same as model
use Rattle.rdx_deriv.proofs.same.are_same_names.Given as goal

abbrev pub invariant-loop-i : goal.invariant-loop-i
invariant-loop-i l = model.same_names (drop l.i l.a) (drop l.i l.b) ≡ model.same_names l.a l.b

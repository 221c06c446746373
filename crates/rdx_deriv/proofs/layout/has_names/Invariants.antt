use Rattle.std.proofs.Common.{◌≡◌, drop}
use Rattle.rdx_deriv.specs.Inside.Same.{same_names}
use Rattle.rdx_deriv.specs.Inside.Layouts.{names_of_pairs}
use Rattle.rdx_deriv.proofs.layout.has_names.Given as goal

abbrev pub invariant-loop-i : goal.invariant-loop-i
invariant-loop-i l = same_names (drop l.i l.names) (names_of_pairs (drop l.i l.pairs)) ≡ same_names l.names (names_of_pairs l.pairs)

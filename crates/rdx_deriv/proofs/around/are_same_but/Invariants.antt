use Rattle.std.proofs.Common.{◌≡◌, drop}
use Rattle.rdx_term.specs.View.{trees_of}
use Rattle.rdx_deriv.specs.Inside.Around.{same_at}
use Rattle.rdx_deriv.proofs.around.are_same_but.Given as goal

abbrev pub invariant-loop-i : goal.invariant-loop-i
invariant-loop-i l = same_at l.i l.place (trees_of (drop l.i l.terms)) (trees_of (drop l.i l.others)) ≡ same_at 0 l.place (trees_of l.terms) (trees_of l.others)

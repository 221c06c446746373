use Rattle.std.proofs.Common.{◌≡◌, ◌++◌, drop, map}
use Rattle.rdx_deriv.specs.DerivationView.{derivation_of}
use Rattle.rdx_deriv.specs.Inside.Worklists.{listed}
use Rattle.rdx_deriv.proofs.holding.put_all.Given as goal

abbrev pub invariant-loop-d : goal.invariant-loop-d
invariant-loop-d l = listed l.left.items ++ map derivation_of (drop l.d-index l.under) ≡ listed l.fn.left.items ++ map derivation_of l.under

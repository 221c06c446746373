use Rattle.std.specs.Prelude.{map}
use Rattle.std.proofs.Common.{◌<◌}
use denote.Param.Weighed.{most}
use Rattle.rdx_deriv.specs.Derivations.{derivations}
use Rattle.rdx_deriv.specs.DerivationView.{derivation_of}
use Rattle.rdx_deriv.specs.Inside.Worklists.{derivations_nodes}
use Rattle.rdx_deriv.proofs.deriv.Deriv.TheLaws.{the_size}
use Rattle.rdx_deriv.proofs.deriv.Deriv.+drop.Given as goal

abbrev pub decreases-drop : goal.decreases-drop
decreases-drop l = the_size l.self

abbrev pub invariant-loop-next : goal.invariant-loop-next
invariant-loop-next l = most the_size l.left.items < the_size l.fn.self

abbrev pub decreases-loop-next : goal.decreases-loop-next
decreases-loop-next l = derivations_nodes (derivations (map derivation_of l.left.items))

use Rattle.std.proofs.Common.{◌≡◌, length}
use Rattle.rdx_relations.specs.Inside.Filling.{made_of}
use Rattle.rdx_relations.proofs.shorthand.filling.settled.Given as goal

abbrev pub invariant-loop-next : goal.invariant-loop-next
invariant-loop-next l = made_of l.spot ≡ made_of l.fn.spot

abbrev pub decreases-loop-next : goal.decreases-loop-next
decreases-loop-next l = length l.spot.layers.now

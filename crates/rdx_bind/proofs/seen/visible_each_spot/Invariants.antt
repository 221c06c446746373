use Rattle.std.proofs.Common.{◌≡◌, ◌++◌, map, drop}
use Rattle.rdx_bind.specs.Seen.{visible_spot}
use Rattle.rdx_bind.specs.Spots.{spots_of}
use Rattle.rdx_bind.proofs.seen.visible_each_spot.Given as goal

abbrev pub invariant-loop-spot : goal.invariant-loop-spot
invariant-loop-spot l = spots_of l.seen.items ++ map visible_spot (spots_of (drop l.spot-index l.spots)) ≡ map visible_spot (spots_of l.spots)

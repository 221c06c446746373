use Rattle.std.proofs.Common.{◌≡◌, ◌++◌, drop}
use Rattle.rdx_bind.specs.Spots.{spots_of}
use Rattle.rdx_bind.proofs.rows.shared_spots.Given as goal

abbrev pub invariant-loop-spot : goal.invariant-loop-spot
invariant-loop-spot l = spots_of l.found.items ++ spots_of (drop l.spot-index l.spots) ≡ spots_of l.spots

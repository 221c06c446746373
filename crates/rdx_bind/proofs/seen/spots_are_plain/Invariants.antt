use Rattle.std.proofs.Common.{◌≡◌, ◌⊎◌, [], drop}
use Rattle.rdx_lang.specs.Members.{In}
use Rattle.rdx_bind.specs.Spots.{Spot, spots_of}
use Rattle.rdx_bind.proofs.seen.spots_are_plain.Given as goal

abbrev pub invariant-loop-spot : goal.invariant-loop-spot
invariant-loop-spot l = (s : Spot) → In s (spots_of l.spots) → In s (spots_of (drop l.spot-index l.spots)) ⊎ (s.binding.differs ≡ [])

use Rattle.std.proofs.Common.{◌≡◌, [], List, vec_len}
use Rattle.rdx_lang.proofs.Collecting.{Collects}
use Rattle.rdx_bind.specs.Spots.{Spot, spots_of}
use Rattle.rdx_bind.proofs.spots.distinct.Given as goal

abbrev pub invariant-loop-spot : goal.invariant-loop-spot
invariant-loop-spot l =
    let nothing : List Spot = [] in
    Collects (λ s u. u ≡ s) (spots_of l.fn.spots.items) (spots_of l.rest.items) nothing (spots_of l.set.keys)

abbrev pub decreases-loop-spot : goal.decreases-loop-spot
decreases-loop-spot l = vec_len l.rest

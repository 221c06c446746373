use Rattle.std.proofs.Common.{[], List, vec_len}
use Rattle.rdx_lang.proofs.Collecting.{Collects}
use Rattle.rdx_bind.specs.Spots.{Spot, spot_of, spots_of}
use Rattle.rdx_bind.specs.Splitting.{GoesOn}
use Rattle.rdx_bind.proofs.extending.going_on.Given as goal

abbrev pub invariant-loop-inner : goal.invariant-loop-inner
invariant-loop-inner l =
    let nothing : List Spot = [] in
    Collects (GoesOn (spot_of l.outer)) (spots_of l.fn.inners.items) (spots_of l.rest.items) nothing (spots_of l.found.items)

abbrev pub decreases-loop-inner : goal.decreases-loop-inner
decreases-loop-inner l = vec_len l.rest

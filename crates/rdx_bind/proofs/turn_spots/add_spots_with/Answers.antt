use Rattle.std.proofs.Common.{◌≡◌, ◌+◌, ◌∷◌, drop, arith}
use Rattle.rdx_lang.specs.Shown.{binding_of, bindings_of}
use Rattle.rdx_lang.proofs.Rest.{rest_at, rest_none}
use Rattle.rdx_lang.proofs.Collecting.{collects-next, collects-end}
use Rattle.rdx_bind.specs.Ends.{IsSpotWith}
use Rattle.rdx_bind.specs.Spots.{spot_of, spots_of}
use Rattle.rdx_bind.proofs.turn_spots.add_spots_with.Goals as goal

pub loop-other-preserved : goal.loop-other-preserved
loop-other-preserved c =
    let xs = c.args.others.now in
    let e : bindings_of (drop c.loop-other.other-index xs) ≡ binding_of c.other-item.result ∷ bindings_of (drop (c.loop-other.other-index + 1) xs) =
    rest_at binding_of xs c.loop-other.other-index c.other-item.result c.loop-other-test.true c.other-item.is in
    collects-next (IsSpotWith (spot_of c.args.spot.now) (binding_of c.args.first.now)) (bindings_of xs) (spots_of c.args.found.now.items) (binding_of c.other-item.result) _ _ _ _ e c.loop-other.invariant c.in_ok-add_spot.ensures

pub returns : goal.returns
returns c =
    let xs = c.args.others.now in
    collects-end (IsSpotWith (spot_of c.args.spot.now) (binding_of c.args.first.now)) (bindings_of xs) (bindings_of (drop c.loop-other.other-index xs)) _ _ (rest_none binding_of xs c.loop-other.other-index (omega arith)) c.loop-other.invariant

use Rattle.std.proofs.Common.{◌≡◌, ◌+◌, ◌∷◌, drop, arith}
use Rattle.rdx_lang.proofs.Collecting.{collects-start, collects-next, collects-end}
use Rattle.rdx_lang.proofs.Rest.{rest_at, rest_none}
use Rattle.rdx_lang.specs.Collecting.{Arises}
use Rattle.rdx_lang.specs.Shown.{bindings_of}
use Rattle.rdx_bind.specs.Rows.{JoinedSpot}
use Rattle.rdx_bind.specs.Spots.{Spot, spot_of, spots_of}
use Rattle.rdx_bind.proofs.columns.add_spots.Goals as goal

pub loop-spot-init : goal.loop-spot-init
loop-spot-init c =
    let step : Spot → Spot → Type 0 = λ s. Arises (JoinedSpot s) (bindings_of c.args.others.now) in
    collects-start step (spots_of c.args.spots.now) (spots_of c.args.found.now.items)

pub loop-spot-preserved : goal.loop-spot-preserved
loop-spot-preserved c =
    let xs = c.args.spots.now in
    let step : Spot → Spot → Type 0 = λ s. Arises (JoinedSpot s) (bindings_of c.args.others.now) in
    let e : spots_of (drop c.loop-spot.spot-index xs) ≡ spot_of c.spot-item.result ∷ spots_of (drop (c.loop-spot.spot-index + 1) xs) =
    rest_at spot_of xs c.loop-spot.spot-index c.spot-item.result c.loop-spot-test.true c.spot-item.is in
    collects-next step (spots_of xs) _ (spot_of c.spot-item.result) _ _ _ _ e c.loop-spot.invariant c.in_ok-add_all_joined.ensures

pub returns : goal.returns
returns c =
    let xs = c.args.spots.now in
    let step : Spot → Spot → Type 0 = λ s. Arises (JoinedSpot s) (bindings_of c.args.others.now) in
    collects-end step (spots_of xs) (spots_of (drop c.loop-spot.spot-index xs)) _ _ (rest_none spot_of xs c.loop-spot.spot-index (omega arith)) c.loop-spot.invariant

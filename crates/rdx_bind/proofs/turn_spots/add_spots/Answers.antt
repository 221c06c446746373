use Rattle.std.proofs.Common.{◌≡◌, ◌+◌, ◌∷◌, drop, arith}
use Rattle.rdx_lang.specs.Bindings.{Binding}
use Rattle.rdx_lang.specs.Collecting.{Arises}
use Rattle.rdx_lang.specs.Shown.{binding_of, bindings_of}
use Rattle.rdx_lang.proofs.Rest.{rest_at, rest_none}
use Rattle.rdx_lang.proofs.Collecting.{collects-next, collects-end}
use Rattle.rdx_bind.specs.Ends.{IsSpotWith}
use Rattle.rdx_bind.specs.Spots.{Spot, spot_of, spots_of}
use Rattle.rdx_bind.proofs.turn_spots.add_spots.Goals as goal

pub loop-first-preserved : goal.loop-first-preserved
loop-first-preserved c =
    let xs = c.args.firsts.now in
    let step : Binding → Spot → Type 0 = λ b. Arises (IsSpotWith (spot_of c.args.spot.now) b) (bindings_of c.args.others.now) in
    let e : bindings_of (drop c.loop-first.first-index xs) ≡ binding_of c.first-item.result ∷ bindings_of (drop (c.loop-first.first-index + 1) xs) =
    rest_at binding_of xs c.loop-first.first-index c.first-item.result c.loop-first-test.true c.first-item.is in
    collects-next step (bindings_of xs) (spots_of c.args.found.now.items) (binding_of c.first-item.result) _ _ _ _ e c.loop-first.invariant c.in_ok-add_spots_with.ensures

pub returns : goal.returns
returns c =
    let xs = c.args.firsts.now in
    let step : Binding → Spot → Type 0 = λ b. Arises (IsSpotWith (spot_of c.args.spot.now) b) (bindings_of c.args.others.now) in
    collects-end step (bindings_of xs) (bindings_of (drop c.loop-first.first-index xs)) _ _ (rest_none binding_of xs c.loop-first.first-index (omega arith)) c.loop-first.invariant

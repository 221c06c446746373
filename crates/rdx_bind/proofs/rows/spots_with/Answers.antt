use Rattle.std.proofs.Common.{◌≡◌, ◌+◌, ◌∷◌, List, [], ◌≤◌, length, drop, arith}
use Rattle.rdx_lang.specs.Collecting.{Adds, Arises, Combined}
use Rattle.rdx_lang.specs.Shown.{bindings_of}
use Rattle.rdx_lang.proofs.Rest.{rest_at, rest_none}
use Rattle.rdx_lang.proofs.Collecting.{collects-next, collects-end}
use Rattle.rdx_bind.specs.Rows.{JoinedSpot}
use Rattle.rdx_bind.specs.Spots.{Spot, spot_of, spots_of}
use Rattle.rdx_bind.proofs.Gathering.{exactly_added}
use Rattle.rdx_bind.proofs.SpotRows.{spots_are_maps, exactly_unit}
use Rattle.rdx_bind.proofs.rows.spots_with.Goals as goal

pub returns-then-is_no_names_alone : goal.returns-then-is_no_names_alone
returns-then-is_no_names_alone c = exactly_unit (spots_of c.args.spots.items) (bindings_of c.args.others.now) (spots_are_maps c.args.spots.items) (c.is_no_names_alone.ensures.0 cc)

pub loop-spot-preserved : goal.loop-spot-preserved
loop-spot-preserved c =
    let nothing : List Spot = [] in
    let xs = c.args.spots.items in
    let step : Spot → Spot → Type 0 = λ s. Arises (JoinedSpot s) (bindings_of c.args.others.now) in
    let e : spots_of (drop c.loop-spot.spot-index xs) ≡ spot_of c.spot-item.result ∷ spots_of (drop (c.loop-spot.spot-index + 1) xs) =
    rest_at spot_of xs c.loop-spot.spot-index c.spot-item.result (rw c.deref-spot-items.ensures.value at c.loop-spot-test.true) (rw c.deref-spot-items.ensures.value at c.spot-item.is) in
    collects-next step (spots_of xs) nothing (spot_of c.spot-item.result) _ _ _ _ e c.loop-spot.invariant c.in_ok-add_all_joined.ensures

pub returns : goal.returns
returns c =
    let nothing : List Spot = [] in
    let xs = c.args.spots.items in
    let step : Spot → Spot → Type 0 = λ s. Arises (JoinedSpot s) (bindings_of c.args.others.now) in
    let n : length c.deref-spot-items.result.now ≤ c.loop-spot.spot-index = omega arith in
    let e : spots_of (drop c.loop-spot.spot-index xs) ≡ [] = rest_none spot_of xs c.loop-spot.spot-index (rw c.deref-spot-items.ensures.value at n) in
    let a : Adds (Combined JoinedSpot (spots_of xs) (bindings_of c.args.others.now)) nothing (spots_of c.loop-spot.found.items) =
    collects-end step (spots_of xs) (spots_of (drop c.loop-spot.spot-index xs)) nothing _ e c.loop-spot.invariant in
    exactly_added (Combined JoinedSpot (spots_of xs) (bindings_of c.args.others.now)) a

use Rattle.std.proofs.Common.{◌≡◌, ◌+◌, ℕ, List, [], ◌∷◌, drop, arith}
use Rattle.rdx_lang.specs.Collecting.{Arises}
use Rattle.rdx_lang.specs.Shown.{bindings_of}
use Rattle.rdx_lang.proofs.Rest.{rest_at, rest_none}
use Rattle.rdx_lang.proofs.Collecting.{collects-next, collects-end}
use Rattle.rdx_bind.specs.Choices.{length_name}
use Rattle.rdx_bind.specs.Ends.{SplitsCell}
use Rattle.rdx_bind.specs.Rows.{split_rows_of}
use Rattle.rdx_bind.specs.Spots.{Spot, spot_of, spots_of}
use Rattle.rdx_bind.proofs.Gathering.{exactly_added}
use Rattle.rdx_bind.proofs.TurnRows.{item_in}
use Rattle.rdx_bind.proofs.turn_spots.cell_spots.Goals as goal

pub add_cell_spots-requires-clause-bound : goal.add_cell_spots-requires-clause-bound
add_cell_spots-requires-clause-bound c =
    let s = c.spot-item.result in
    c.requires.bound (spot_of s) (item_in spot_of c.args.spots.now c.loop-spot.spot-index s c.loop-spot-test.true c.spot-item.is)

pub add_cell_spots-requires-clause-full : goal.add_cell_spots-requires-clause-full
add_cell_spots-requires-clause-full c =
    let s = c.spot-item.result in
    c.requires.full (spot_of s) (item_in spot_of c.args.spots.now c.loop-spot.spot-index s c.loop-spot-test.true c.spot-item.is)

pub loop-spot-preserved : goal.loop-spot-preserved
loop-spot-preserved c =
    let nothing : List Spot = [] in
    let xs = c.args.spots.now in
    let k : ℕ = c.loop-spot.spot-index in
    let step : Spot → Spot → Type 0 =
    SplitsCell c.args.repetition.names.now (length_name c.args.repetition.length) (split_rows_of c.args.before.now) (split_rows_of c.args.between.now) (bindings_of c.args.others.now) in
    let e : spots_of (drop k xs) ≡ spot_of c.spot-item.result ∷ spots_of (drop (k + 1) xs) =
    rest_at spot_of xs k c.spot-item.result c.loop-spot-test.true c.spot-item.is in
    collects-next step (spots_of xs) nothing (spot_of c.spot-item.result) _ _ _ _ e c.loop-spot.invariant c.in_ok-add_cell_spots.ensures

pub returns : goal.returns
returns c =
    let nothing : List Spot = [] in
    let xs = c.args.spots.now in
    let step : Spot → Spot → Type 0 =
    SplitsCell c.args.repetition.names.now (length_name c.args.repetition.length) (split_rows_of c.args.before.now) (split_rows_of c.args.between.now) (bindings_of c.args.others.now) in
    exactly_added (Arises step (spots_of xs))
    (collects-end step (spots_of xs) (spots_of (drop c.loop-spot.spot-index xs)) nothing _ (rest_none spot_of xs c.loop-spot.spot-index (omega arith)) c.loop-spot.invariant)

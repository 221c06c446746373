use Rattle.std.proofs.Common.{◌≡◌, ◌+◌, ℕ, List, [], ◌∷◌, drop, arith}
use Rattle.rdx_lang.specs.Bindings.{Binding}
use Rattle.rdx_lang.specs.Collecting.{Adds, Arises, Combined, HasExactly}
use Rattle.rdx_lang.specs.Shown.{bindings_of}
use Rattle.rdx_lang.proofs.Rest.{rest_at, rest_none}
use Rattle.rdx_lang.proofs.Collecting.{collects-next, collects-end}
use Rattle.rdx_bind.specs.Choices.{Repeats, length_name}
use Rattle.rdx_bind.specs.Ends.{IsSpotWith, SplitsNext}
use Rattle.rdx_bind.specs.Rows.{SplitRow, all_matches, split_rows_of}
use Rattle.rdx_bind.specs.Spots.{Spot, spot_of, spots_of}
use Rattle.rdx_bind.proofs.Gathering.{adds_as, exactly_added}
use Rattle.rdx_bind.proofs.TurnRows.{split_next_joins, joins_split_next}
use Rattle.rdx_bind.proofs.turn_spots.next_spots.Goals as goal

pub loop-spot-preserved : goal.loop-spot-preserved
loop-spot-preserved c =
    let nothing : List Spot = [] in
    let xs = c.args.spots.now in
    let k : ℕ = c.loop-spot.spot-index in
    let s : Spot = spot_of c.spot-item.result in
    let cells : List SplitRow = split_rows_of c.args.cells.now in
    let firsts : List Binding = bindings_of c.in_ok-firsts.firsts.items in
    let old : List Spot = spots_of c.loop-spot.found.items in
    let new : List Spot = spots_of c.add_spots.new.found.items in
    let step : Spot → Spot → Type 0 = SplitsNext c.args.repetition.names.now (length_name c.args.repetition.length) cells in
    let h : HasExactly firsts (Repeats c.args.repetition.names.now (length_name c.args.repetition.length) (all_matches cells)) =
    c.in_ok-firsts.ensures in
    let a : Adds (Combined (IsSpotWith s) firsts (s.binding ∷ [])) old new =
    rw (c.deref.ensures.value, c.from_ref.ensures.value) at c.in_ok-add_spots.ensures in
    let b : Adds (step s) old new = adds_as old new (λ r j. split_next_joins r h j) (λ r p. joins_split_next r h p) a in
    let e : spots_of (drop k xs) ≡ s ∷ spots_of (drop (k + 1) xs) =
    rest_at spot_of xs k c.spot-item.result c.loop-spot-test.true c.spot-item.is in
    collects-next step (spots_of xs) nothing s _ _ _ _ e c.loop-spot.invariant b

pub returns : goal.returns
returns c =
    let nothing : List Spot = [] in
    let xs = c.args.spots.now in
    let step : Spot → Spot → Type 0 =
    SplitsNext c.args.repetition.names.now (length_name c.args.repetition.length) (split_rows_of c.args.cells.now) in
    exactly_added (Arises step (spots_of xs))
    (collects-end step (spots_of xs) (spots_of (drop c.loop-spot.spot-index xs)) nothing _ (rest_none spot_of xs c.loop-spot.spot-index (omega arith)) c.loop-spot.invariant)

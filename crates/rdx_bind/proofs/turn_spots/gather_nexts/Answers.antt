use Rattle.std.proofs.Common.{◌≡◌, ◌+◌, ◌-◌, ◌<◌, ◌≤◌, ℕ, List, [], ◌∷◌, length, get_or, take, drop, Option, sym, subst, arith, add-one}
use Rattle.std.proofs.Math.Seq.{drop-cons}
use Rattle.std.proofs.lemmas.List.{length-map, drop_all}
use Rattle.rdx_lang.specs.Collecting.{HasExactly}
use Rattle.rdx_lang.proofs.Collecting.{In_along, collects-next, collects-end}
use Rattle.rdx_bind.specs.Choices.{NoneEmpty, length_name}
use Rattle.rdx_bind.specs.Ends.{HasSpots, IsReached, SplitsNextAt, SplitsNextTo}
use Rattle.rdx_bind.specs.Rows.{SplitRow, all_matches, split_row_of, split_rows_of}
use Rattle.rdx_bind.specs.Spots.{Spot, spots_of}
use Rattle.rdx_bind.specs.Splitting.{gathered_spots}
use Rattle.rdx_bind.proofs.Gathering.{adds_exactly}
use Rattle.rdx_bind.proofs.RunEnds.{reached_bound, reached_full}
use Rattle.rdx_bind.proofs.TurnRows.{at_place, first_rows, rows_bind, split_next_at, take-in, take_plain}
use Rattle.rdx_bind.proofs.turn_spots.gather_nexts.Goals as goal
use Rattle.rdx_bind.proofs.turn_spots.gather_nexts.Goals.{In-loop-place}

-- a run leads to the place
reached : (c : In-loop-place) →
    IsReached HasSpots (split_rows_of c.args.cells.now) (split_rows_of c.args.nexts.now) (get_or c.args.split_nexts.now c.loop-place.place-index 0)
reached c =
    let k : ℕ = get_or c.args.split_nexts.now c.loop-place.place-index 0 in
    c.requires.ways.sound k (at_place c.args.split_nexts.now c.loop-place.place-index 0 c.loop-place-test.true)

-- it has no more cells than there are
within : (c : In-loop-place) → get_or c.args.split_nexts.now c.loop-place.place-index 0 ≤ length c.args.cells.now
within c =
    let b =
    reached_bound (split_rows_of c.args.cells.now) (split_rows_of c.args.nexts.now) (get_or c.args.split_nexts.now c.loop-place.place-index 0) (reached c) in
    let f = length-map c.args.cells.now split_row_of in
    omega arith

pub overflow_sub-count : goal.overflow_sub-count
overflow_sub-count c = within (goal.at.overflow_sub-count c).In-loop-place

pub next_spots-requires-clause-bound : goal.next_spots-requires-clause-bound
next_spots-requires-clause-bound c =
    let cells : List SplitRow = split_rows_of c.args.cells.now in
    let n : ℕ = length c.args.cells.now - get_or c.args.split_nexts.now c.loop-place.place-index 0 in
    rows_bind c.args.repetition.names.now cells (split_rows_of (take n c.args.cells.now)) c.requires.bound
    (λ cell i. take-in n cells cell (In_along (split_rows_of (take n c.args.cells.now)) (take n cells) (first_rows c.args.cells.now n) i))

pub next_spots-requires-clause-plain : goal.next_spots-requires-clause-plain
next_spots-requires-clause-plain c =
    take_plain c.args.plain c.args.cells.now (length c.args.cells.now - get_or c.args.split_nexts.now c.loop-place.place-index 0) c.requires.plain

pub next_spots-requires-clause-full : goal.next_spots-requires-clause-full
next_spots-requires-clause-full c =
    let i = (goal.at.next_spots-requires-clause-full c).In-loop-place in
    let cells : List SplitRow = split_rows_of c.args.cells.now in
    let k : ℕ = get_or c.args.split_nexts.now c.loop-place.place-index 0 in
    let n : ℕ = length c.args.cells.now - k in
    let f : length cells ≡ length c.args.cells.now = length-map c.args.cells.now split_row_of in
    let w = within i in
    subst (λ (rows : List SplitRow). NoneEmpty (all_matches rows)) (sym (first_rows c.args.cells.now n)) (reached_full n cells (split_rows_of c.args.nexts.now) k (omega arith) (reached i))

pub loop-place-preserved : goal.loop-place-preserved
loop-place-preserved c =
    let xs : List (List ℕ) = c.args.repetition.names.now in
    let x : Option (List ℕ) = length_name c.args.repetition.length in
    let cells : List SplitRow = split_rows_of c.args.cells.now in
    let nexts : List SplitRow = split_rows_of c.args.nexts.now in
    let i : ℕ = c.loop-place.place-index in
    let k : ℕ = get_or c.args.split_nexts.now i 0 in
    let n : ℕ = length c.args.cells.now - k in
    let more : List Spot = spots_of c.in_ok-more.more.items in
    let old : List Spot = gathered_spots c.loop-place.found in
    let new : List Spot = gathered_spots c.add.new.self in
    let h : i < length c.args.split_nexts.now = c.loop-place-test.true in
    let e : drop i c.args.split_nexts.now ≡ k ∷ drop (i + 1) c.args.split_nexts.now =
    rw add-one (drop-cons c.args.split_nexts.now i 0 h) in
    let f : length cells ≡ length c.args.cells.now = length-map c.args.cells.now split_row_of in
    let a : HasExactly more (SplitsNextAt xs x cells nexts n) =
    split_next_at xs x c.args.cells.now c.args.nexts.now more n c.index-nexts-count.result (omega arith) (rw c.deref.ensures.value at c.in_ok-more.ensures) in
    let b : HasExactly more (SplitsNextTo xs x cells nexts k) =
    subst (λ (m : ℕ). HasExactly more (SplitsNextAt xs x cells nexts (m - k))) (sym f) a in
    collects-next (SplitsNextTo xs x cells nexts) c.args.split_nexts.now (gathered_spots c.args.found.now) k _ _ old new e c.loop-place.invariant (adds_exactly more old new b c.in_ok-add.ensures)

pub returns : goal.returns
returns c =
    let e : drop c.loop-place.place-index c.args.split_nexts.now ≡ [] =
    drop_all c.loop-place.place-index c.args.split_nexts.now (omega arith) in
    collects-end (SplitsNextTo c.args.repetition.names.now (length_name c.args.repetition.length) (split_rows_of c.args.cells.now) (split_rows_of c.args.nexts.now))
    c.args.split_nexts.now _ (gathered_spots c.args.found.now) _ e c.loop-place.invariant

use Rattle.std.proofs.Common.{◌≡◌, ◌+◌, ◌-◌, ◌<◌, ◌≤◌, ℕ, suc, List, [], ◌∷◌, length, get_or, drop, Option, sym, subst, arith, add-one}
use Rattle.std.proofs.Math.Seq.{drop-cons}
use Rattle.std.proofs.lemmas.List.{length-map, drop_all}
use Rattle.rdx_lang.specs.Collecting.{HasExactly}
use Rattle.rdx_lang.proofs.Collecting.{collects-next, collects-end}
use Rattle.rdx_bind.specs.Choices.{length_name}
use Rattle.rdx_bind.specs.Ends.{IsSplitEnd, SplitsCellAt, SplitsCellTo}
use Rattle.rdx_bind.specs.Rows.{SplitRow, split_row_of, split_rows_of}
use Rattle.rdx_bind.specs.Spots.{Spot, spots_of}
use Rattle.rdx_bind.specs.Splitting.{gathered_spots}
use Rattle.rdx_bind.proofs.Gathering.{adds_exactly}
use Rattle.rdx_bind.proofs.RunEnds.{split_end_bounds, split_end_full}
use Rattle.rdx_bind.proofs.TurnRows.{at_place}
use Rattle.rdx_bind.proofs.turn_spots.gather_cells.Goals as goal
use Rattle.rdx_bind.proofs.turn_spots.gather_cells.Goals.{In-loop-from}

-- the cell is split, with the end behind it
split : (c : In-loop-from) →
    IsSplitEnd (split_rows_of c.args.cells.now) (split_rows_of c.args.nexts.now) (get_or c.args.split_ends.now c.loop-from.from-index (0, 0))
split c =
    let p : ℕ × ℕ = get_or c.args.split_ends.now c.loop-from.from-index (0, 0) in
    c.requires.ways.sound p (at_place c.args.split_ends.now c.loop-from.from-index (0, 0) c.loop-from-test.true)

-- it is one of the cells, and comes before the end
within : (c : In-loop-from) → ((get_or c.args.split_ends.now c.loop-from.from-index (0, 0)).0 ≤ length c.args.cells.now)
    × ((get_or c.args.split_ends.now c.loop-from.from-index (0, 0)).1 < (get_or c.args.split_ends.now c.loop-from.from-index (0, 0)).0)
within c =
    let p : ℕ × ℕ = get_or c.args.split_ends.now c.loop-from.from-index (0, 0) in
    let b = split_end_bounds (split_rows_of c.args.cells.now) (split_rows_of c.args.nexts.now) p (split c) in
    let d = b.0 in
    let f = length-map c.args.cells.now split_row_of in
    (omega arith, b.1)

pub overflow_sub-place : goal.overflow_sub-place
overflow_sub-place c = (within (goal.at.overflow_sub-place c).In-loop-from).0

pub overflow_sub-turns : goal.overflow_sub-turns
overflow_sub-turns c =
    let w = within (goal.at.overflow_sub-turns c).In-loop-from in
    let b = w.0 in
    let d = w.1 in
    omega arith

pub cell_spots_at-requires-clause-order : goal.cell_spots_at-requires-clause-order
cell_spots_at-requires-clause-order c =
    let w = within (goal.at.cell_spots_at-requires-clause-order c).In-loop-from in
    let b = w.0 in
    let d = w.1 in
    omega arith

pub cell_spots_at-requires-clause-full : goal.cell_spots_at-requires-clause-full
cell_spots_at-requires-clause-full c turn =
    let i = (goal.at.cell_spots_at-requires-clause-full c).In-loop-from in
    let w = within i in
    let b = w.0 in
    let d = w.1 in
    let p : ℕ × ℕ = get_or c.args.split_ends.now c.loop-from.from-index (0, 0) in
    let m : ℕ = length c.args.cells.now - p.0 in
    let n : ℕ = length c.args.cells.now - p.1 in
    let f : length (split_rows_of c.args.cells.now) ≡ length c.args.cells.now = length-map c.args.cells.now split_row_of in
    rw add-one (split_end_full m (n - suc m) (split_rows_of c.args.cells.now) (split_rows_of c.args.nexts.now) p turn (omega arith) (omega arith) (split i))

pub loop-from-preserved : goal.loop-from-preserved
loop-from-preserved c =
    let xs : List (List ℕ) = c.args.repetition.names.now in
    let x : Option (List ℕ) = length_name c.args.repetition.length in
    let cells : List SplitRow = split_rows_of c.args.cells.now in
    let nexts : List SplitRow = split_rows_of c.args.nexts.now in
    let i : ℕ = c.loop-from.from-index in
    let p : ℕ × ℕ = get_or c.args.split_ends.now i (0, 0) in
    let more : List Spot = spots_of c.in_ok-more.more.items in
    let old : List Spot = gathered_spots c.loop-from.found in
    let new : List Spot = gathered_spots c.add.new.self in
    let h : i < length c.args.split_ends.now = c.loop-from-test.true in
    let e : drop i c.args.split_ends.now ≡ p ∷ drop (i + 1) c.args.split_ends.now =
    rw add-one (drop-cons c.args.split_ends.now i (0, 0) h) in
    let f : length cells ≡ length c.args.cells.now = length-map c.args.cells.now split_row_of in
    let a : HasExactly more (SplitsCellTo xs x cells nexts p) =
    subst (λ (k : ℕ). HasExactly more (SplitsCellAt xs x cells nexts (k - p.0) (k - p.1))) (sym f) c.in_ok-more.ensures in
    collects-next (SplitsCellTo xs x cells nexts) c.args.split_ends.now (gathered_spots c.args.found.now) p _ _ old new e c.loop-from.invariant (adds_exactly more old new a c.in_ok-add.ensures)

pub returns : goal.returns
returns c =
    let e : drop c.loop-from.from-index c.args.split_ends.now ≡ [] =
    drop_all c.loop-from.from-index c.args.split_ends.now (omega arith) in
    collects-end (SplitsCellTo c.args.repetition.names.now (length_name c.args.repetition.length) (split_rows_of c.args.cells.now) (split_rows_of c.args.nexts.now))
    c.args.split_ends.now _ (gathered_spots c.args.found.now) _ e c.loop-from.invariant

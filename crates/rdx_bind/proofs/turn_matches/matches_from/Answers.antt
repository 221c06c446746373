use Rattle.std.proofs.Common.{◌≡◌, ◌+◌, ◌-◌, ◌<◌, ◌≤◌, ℕ, List, [], ◌∷◌, length, get_or, take, drop, Option, sym, subst, arith, add-one}
use Rattle.std.proofs.Math.Seq.{drop-cons}
use Rattle.std.proofs.lemmas.List.{length-map, drop_all}
use Rattle.std.proofs.lemmas.Result.{IfOk-weaker}
use Rattle.rdx_lang.specs.Bindings.{Binding}
use Rattle.rdx_lang.specs.Collecting.{Adds, Arises}
use Rattle.rdx_lang.specs.Shown.{bindings_of}
use Rattle.rdx_lang.proofs.Collecting.{In_along, collects-next, collects-end, listing_of}
use Rattle.rdx_bind.specs.Choices.{NoneEmpty, RepeatsWith, length_name}
use Rattle.rdx_bind.specs.Ends.{HasMatches, IsReached, row_at, MatchesUpTo, MatchesTo}
use Rattle.rdx_bind.specs.Rows.{SplitRow, all_matches, split_row_of, split_rows_of}
use Rattle.rdx_bind.proofs.Gathering.{exactly_added}
use Rattle.rdx_bind.proofs.RunEnds.{reached_bound, reached_full, turns_by_ends}
use Rattle.rdx_bind.proofs.TurnRows.{at_place, first_rows, row_found, rows_bind, take-in, take_plain}
use Rattle.rdx_bind.proofs.turn_matches.matches_from.Goals as goal
use Rattle.rdx_bind.proofs.turn_matches.matches_from.Goals.{In-loop-end}

-- a run leads to the end
reached : (c : In-loop-end) →
    IsReached HasMatches (split_rows_of c.args.cells.now) (split_rows_of c.args.nexts.now) (get_or c.args.ends.now c.loop-end.end-index 0)
reached c =
    let k : ℕ = get_or c.args.ends.now c.loop-end.end-index 0 in
    c.requires.ends.sound k (at_place c.args.ends.now c.loop-end.end-index 0 c.loop-end-test.true)

-- it has no more cells than there are
within : (c : In-loop-end) → get_or c.args.ends.now c.loop-end.end-index 0 ≤ length c.args.cells.now
within c =
    let b =
    reached_bound (split_rows_of c.args.cells.now) (split_rows_of c.args.nexts.now) (get_or c.args.ends.now c.loop-end.end-index 0) (reached c) in
    let f = length-map c.args.cells.now split_row_of in
    omega arith

pub overflow_sub-count : goal.overflow_sub-count
overflow_sub-count c = within (goal.at.overflow_sub-count c).In-loop-end

pub add_turns-requires-clause-bound : goal.add_turns-requires-clause-bound
add_turns-requires-clause-bound c =
    let cells : List SplitRow = split_rows_of c.args.cells.now in
    let n : ℕ = length c.args.cells.now - get_or c.args.ends.now c.loop-end.end-index 0 in
    rows_bind c.args.repetition.names.now cells (split_rows_of (take n c.args.cells.now)) c.requires.bound
    (λ cell i. take-in n cells cell (In_along (split_rows_of (take n c.args.cells.now)) (take n cells) (first_rows c.args.cells.now n) i))

pub add_turns-requires-clause-plain : goal.add_turns-requires-clause-plain
add_turns-requires-clause-plain c =
    take_plain c.args.plain c.args.cells.now (length c.args.cells.now - get_or c.args.ends.now c.loop-end.end-index 0) c.requires.plain

pub add_turns-requires-clause-full : goal.add_turns-requires-clause-full
add_turns-requires-clause-full c =
    let i = (goal.at.add_turns-requires-clause-full c).In-loop-end in
    let cells : List SplitRow = split_rows_of c.args.cells.now in
    let k : ℕ = get_or c.args.ends.now c.loop-end.end-index 0 in
    let n : ℕ = length c.args.cells.now - k in
    let f : length cells ≡ length c.args.cells.now = length-map c.args.cells.now split_row_of in
    let w = within i in
    subst (λ (rows : List SplitRow). NoneEmpty (all_matches rows)) (sym (first_rows c.args.cells.now n)) (reached_full n cells (split_rows_of c.args.nexts.now) k (omega arith) (reached i))

pub loop-end-preserved : goal.loop-end-preserved
loop-end-preserved c =
    let nothing : List Binding = [] in
    let xs : List (List ℕ) = c.args.repetition.names.now in
    let x : Option (List ℕ) = length_name c.args.repetition.length in
    let cells : List SplitRow = split_rows_of c.args.cells.now in
    let nexts : List SplitRow = split_rows_of c.args.nexts.now in
    let i : ℕ = c.loop-end.end-index in
    let k : ℕ = get_or c.args.ends.now i 0 in
    let n : ℕ = length c.args.cells.now - k in
    let r = get_or c.args.nexts.now n c.index-nexts-count.result in
    let old : List Binding = bindings_of c.loop-end.found.items in
    let new : List Binding = bindings_of c.add_turns.new.found.items in
    let h : i < length c.args.ends.now = c.loop-end-test.true in
    let e : drop i c.args.ends.now ≡ k ∷ drop (i + 1) c.args.ends.now = rw add-one (drop-cons c.args.ends.now i 0 h) in
    let f : length cells ≡ length c.args.cells.now = length-map c.args.cells.now split_row_of in
    let g : row_at n nexts ≡ split_row_of r = row_found c.args.nexts.now n c.index-nexts-count.result (omega arith) in
    let a : Adds (RepeatsWith xs x (all_matches (split_rows_of (take n c.args.cells.now))) (bindings_of r.matches.items)) old new =
    rw c.deref.ensures.value at c.in_ok-add_turns.ensures in
    let b : Adds (RepeatsWith xs x (all_matches (take n cells)) (bindings_of r.matches.items)) old new =
    subst (λ (rows : List SplitRow). Adds (RepeatsWith xs x (all_matches rows) (bindings_of r.matches.items)) old new) (first_rows c.args.cells.now n) a in
    let d : Adds (MatchesUpTo xs x cells nexts n) old new =
    subst (λ (row : SplitRow). Adds (RepeatsWith xs x (all_matches (take n cells)) row.matches) old new) (sym g) b in
    collects-next (MatchesTo xs x cells nexts) c.args.ends.now nothing k _ _ old new e c.loop-end.invariant
    (subst (λ (m : ℕ). Adds (MatchesUpTo xs x cells nexts (m - k)) old new) (sym f) d)

pub returns : goal.returns
returns c =
    let nothing : List Binding = [] in
    let xs : List (List ℕ) = c.args.repetition.names.now in
    let x : Option (List ℕ) = length_name c.args.repetition.length in
    let cells : List SplitRow = split_rows_of c.args.cells.now in
    let nexts : List SplitRow = split_rows_of c.args.nexts.now in
    let found : List Binding = bindings_of c.loop-end.found.items in
    let e : drop c.loop-end.end-index c.args.ends.now ≡ [] = drop_all c.loop-end.end-index c.args.ends.now (omega arith) in
    let a = turns_by_ends xs x cells nexts c.args.ends.now found c.requires.ends
    (exactly_added (Arises (MatchesTo xs x cells nexts) c.args.ends.now) (collects-end (MatchesTo xs x cells nexts) c.args.ends.now _ nothing found e c.loop-end.invariant)) in
    IfOk-weaker c.listing.result _ _ (λ v l. listing_of (λ b i. a.sound b i) (λ b t. a.complete b t) l) c.listing.ensures

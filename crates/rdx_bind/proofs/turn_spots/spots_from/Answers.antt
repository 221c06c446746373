use Rattle.std.proofs.Common.{ℕ, List, [], Option}
use Rattle.std.proofs.lemmas.Result.{IfOk-weaker}
use Rattle.rdx_lang.specs.Collecting.{Adds, Arises, HasExactly}
use Rattle.rdx_bind.specs.Choices.{length_name}
use Rattle.rdx_bind.specs.Ends.{SplitsCellTo, SplitsNextTo}
use Rattle.rdx_bind.specs.Rows.{SplitRow, split_rows_of}
use Rattle.rdx_bind.specs.Spots.{Spot}
use Rattle.rdx_bind.specs.Splitting.{gathered_spots}
use Rattle.rdx_bind.specs.Turns.{SplitsTurn}
use Rattle.rdx_bind.proofs.Gathering.{exactly_as}
use Rattle.rdx_bind.proofs.RunEnds.{splits_by_ways}
use Rattle.rdx_bind.proofs.turn_spots.spots_from.Goals as goal

pub returns : goal.returns
returns c =
    let nothing : List Spot = [] in
    let xs : List (List ℕ) = c.args.repetition.names.now in
    let x : Option (List ℕ) = length_name c.args.repetition.length in
    let cells : List SplitRow = split_rows_of c.args.cells.now in
    let nexts : List SplitRow = split_rows_of c.args.nexts.now in
    let ps : List (ℕ × ℕ) = c.args.ways.now.split_ends.items in
    let ks : List ℕ = c.args.ways.now.split_nexts.items in
    let mid : List Spot = gathered_spots c.gather_cells.new.found in
    let all : List Spot = gathered_spots c.gather_nexts.new.found in
    let a : Adds (Arises (SplitsCellTo xs x cells nexts) ps) nothing mid =
    rw (c.deref.ensures.value, c.new-found.ensures) at c.in_ok-gather_cells.ensures in
    let b : Adds (Arises (SplitsNextTo xs x cells nexts) ks) mid all = rw c.deref-2.ensures.value at c.in_ok-gather_nexts.ensures in
    let h : HasExactly all (SplitsTurn xs x cells nexts) =
    splits_by_ways xs x cells nexts ps ks mid all c.requires.ways.split_ends c.requires.ways.split_nexts a b in
    IfOk-weaker c.distinct.result _ _ (λ v g. exactly_as (λ s i. h.sound s i) (λ s t. h.complete s t) g) c.distinct.ensures

use Rattle.std.proofs.Common.{List}
use Rattle.std.proofs.lemmas.Result.{on_ok_weaker}
use Rattle.rdx_lang.specs.Bindings.{Binding}
use Rattle.rdx_lang.specs.Collecting.{Adds, Combined, HasExactly}
use Rattle.rdx_lang.specs.Shown.{bindings_of}
use Rattle.rdx_bind.specs.Choices.{Repeats, length_name}
use Rattle.rdx_bind.specs.Ends.{IsSpotWith, rows_around}
use Rattle.rdx_bind.specs.Rows.{SplitRow, split_rows_of}
use Rattle.rdx_bind.specs.Spots.{Spot, spot_of, spots_of}
use Rattle.rdx_bind.proofs.Gathering.{adds_as}
use Rattle.rdx_bind.proofs.TurnRows.{split_cell_joins, joins_split_cell}
use Rattle.rdx_bind.proofs.turn_spots.add_cell_spots.Goals as goal

pub returns : goal.returns
returns c =
    let before : List SplitRow = split_rows_of c.args.before.now in
    let between : List SplitRow = split_rows_of c.args.between.now in
    let s : Spot = spot_of c.args.spot.now in
    let firsts : List Binding = bindings_of c.in_ok-firsts.firsts.items in
    let others : List Binding = bindings_of c.args.others.now in
    let old : List Spot = spots_of c.args.found.now.items in
    let new : List Spot = spots_of c.add_spots.new.found.items in
    let h : HasExactly firsts (Repeats c.args.repetition.names.now (length_name c.args.repetition.length) (rows_around before s.binding between)) =
    c.in_ok-firsts.ensures in
    let f =
    λ (a : Adds (Combined (IsSpotWith s) firsts others) old new). adds_as old new (λ r j. split_cell_joins r h j) (λ r p. joins_split_cell r h p) a in
    on_ok_weaker c.add_spots.result f (rw c.deref.ensures.value at c.add_spots.ensures)

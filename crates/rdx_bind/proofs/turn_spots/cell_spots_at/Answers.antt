use Rattle.std.proofs.Common.{◌+◌, ◌-◌, drop, arith}
use Rattle.std.proofs.lemmas.Result.{IfOk-weaker}
use Rattle.rdx_bind.specs.Choices.{length_name}
use Rattle.rdx_bind.specs.Spots.{spots_of}
use Rattle.rdx_bind.proofs.TurnRows.{around_rows_bind, around_rows_full, drop_plain, split_cell_at, take_plain}
use Rattle.rdx_bind.proofs.turn_spots.cell_spots_at.Goals as goal

pub cell_spots-requires-clause-bound : goal.cell_spots-requires-clause-bound
cell_spots-requires-clause-bound c s i =
    around_rows_bind c.args.repetition.names.now c.args.cells.now c.args.place (c.args.turns - (c.args.place + 1)) c.index-cells-place.result s c.requires.bound (omega arith)
    (rw c.deref.ensures.value at i)

pub cell_spots-requires-clause-before : goal.cell_spots-requires-clause-before
cell_spots-requires-clause-before c = take_plain c.args.plain c.args.cells.now c.args.place c.requires.plain

pub cell_spots-requires-clause-between : goal.cell_spots-requires-clause-between
cell_spots-requires-clause-between c =
    take_plain c.args.plain (drop (c.args.place + 1) c.args.cells.now) (c.args.turns - (c.args.place + 1)) (drop_plain c.args.plain c.args.cells.now (c.args.place + 1) c.requires.plain)

pub cell_spots-requires-clause-full : goal.cell_spots-requires-clause-full
cell_spots-requires-clause-full c s i = around_rows_full c.args.cells.now c.args.place c.args.turns s.binding (c.requires.full s.binding)

pub returns : goal.returns
returns c =
    IfOk-weaker c.cell_spots.result _ _ (λ v h. split_cell_at c.args.repetition.names.now (length_name c.args.repetition.length) c.args.cells.now c.args.nexts.now (spots_of v.items)
    c.args.place c.args.turns c.index-cells-place.result c.index-nexts-turns.result (omega arith) (omega arith) (rw (c.deref.ensures.value, c.deref-2.ensures.value) at h)) c.cell_spots.ensures

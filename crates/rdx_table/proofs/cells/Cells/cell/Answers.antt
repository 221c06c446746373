use Rattle.std.proofs.Common.{ap, sym, subst, IfSome}
use Rattle.rdx_bind.specs.Columns.{has_nothing}
use Rattle.rdx_bind.specs.Rows.{SplitRow, split_row_of}
use Rattle.rdx_bind.specs.Spots.{spots_of}
use Rattle.rdx_table.specs.Inside.Cells.{IsCell}
use Rattle.rdx_table.specs.Inside.Looks.{Meets}
use Rattle.rdx_table.proofs.CellGoals.{cell-aim, cell-row}
use Rattle.rdx_table.proofs.cells.Cells.cell.Goals as goal

pub returns-in_default-clause-found : goal.returns-in_default-clause-found
returns-in_default-clause-found c =
    subst (λ a. IsCell c.args.self.now c.args.i a (split_row_of c.empty_row.result)) (sym c.in_default.ensures.none)
    (has_nothing (ap (λ (r : SplitRow). r.matches) c.empty_row.ensures) (ap (λ (r : SplitRow). r.spots) c.empty_row.ensures))

pub read-requires-clause-goal : goal.read-requires-clause-goal
read-requires-clause-goal c = cell-aim c.requires.ready c.requires.i c.in-Some.ensures.some

pub returns-in_default-2-clause-stop : goal.returns-in_default-2-clause-stop
returns-in_default-2-clause-stop c =
    c.ask_for.ensures c.args.self.now.look.setting.now (cell-aim c.requires.ready c.requires.i c.in-Some.ensures.some)

pub returns-clause-found : goal.returns-clause-found
returns-clause-found c =
    let m : Meets c.args.self.now.look c.in-Some.goal c.in-Some-2.row =
    subst (λ o. IfSome o (λ row. Meets c.args.self.now.look c.in-Some.goal row)) c.in-Some-2.is c.in_ok-row.ensures in
    cell-row c.in-Some-2.row (spots_of c.in_ok-spots.spots.items) c.in-Some.ensures.some m c.in_ok-spots.ensures

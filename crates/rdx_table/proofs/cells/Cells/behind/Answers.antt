use Rattle.rdx_table.proofs.CellGoals.{cell-aim}
use Rattle.rdx_table.proofs.cells.Cells.behind.Goals as goal

pub read-requires-clause-goal : goal.read-requires-clause-goal
read-requires-clause-goal c = cell-aim c.requires.ready c.requires.i c.in-Some.ensures.some

pub returns : goal.returns
returns c = c.in_ok-add.ensures c.args.self.now.look.setting.now (cell-aim c.requires.ready c.requires.i c.in-Some.ensures.some) c.requires.missing

use Rattle.rdx_table.specs.Inside.Cells.{AreFor}
use Rattle.rdx_table.proofs.cells.Cells.need.Given as goal

abbrev pub invariant-loop-i : goal.invariant-loop-i
invariant-loop-i l = AreFor l.self.look.setting.now l.missing.tasks.items

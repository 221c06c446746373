use Rattle.rdx_table.proofs.cells.Cells.need_turns.Goals as goal

pub returns : goal.returns
returns c = c.stop.ensures c.args.self.now.look.setting.now c.loop-i.invariant

use Rattle.rdx_lang.specs.Checked.{language_in}
use Rattle.rdx_enum.proofs.Readiness.{slot_ready}
use Rattle.rdx_enum.proofs.growing.Setting.item_is_ready.Goals as goal

pub returns : goal.returns
returns c = slot_ready (language_in c.args.self.now.language.now) c.args.self.now.tables.now c.args.n c.args.items.now c.args.i c.args.item.now c.requires.place c.requires.item c.requires.ready

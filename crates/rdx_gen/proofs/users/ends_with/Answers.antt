use Rattle.std.proofs.Common.{sym, ◌∙◌}
use Rattle.rdx_gen.proofs.UserLaws.{last-in}
use Rattle.rdx_gen.proofs.users.ends_with.Goals as goal

pub returns : goal.returns
returns c = last-in c.args.list.now c.args.number (sym c.is_empty.ensures ∙ c.if-is_empty.false)

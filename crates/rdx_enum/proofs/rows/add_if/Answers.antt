use Rattle.std.proofs.Common.{arith}
use Rattle.std.proofs.lemmas.Grind.{common_steps}
use Rattle.rdx_term.specs.View.{tree_of}
use Rattle.rdx_enum.proofs.Filters.{adds_if, adds_not}
use Rattle.rdx_enum.proofs.rows.add_if.Goals as goal

pub returns-in_ok-push : goal.returns-in_ok-push
returns-in_ok-push c = adds_if c.args.flag (tree_of c.args.t.now) _ _ c.if-flag.true (grind (arith, common_steps))

pub returns-else-flag : goal.returns-else-flag
returns-else-flag c = adds_not c.args.flag (tree_of c.args.t.now) _ c.if-flag.false

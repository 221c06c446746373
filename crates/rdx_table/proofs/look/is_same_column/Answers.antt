use Rattle.std.proofs.Common.{sym, ◌∙◌}
use Rattle.std.specs.Cmp.Lexicographic.{pointwise_decides}
use Rattle.rdx_table.proofs.AnswerLaws.{ask_decides, same_column}
use Rattle.rdx_table.proofs.look.is_same_column.Goals as goal

pub returns-then-eq : goal.returns-then-eq
returns-then-eq c h =
    same_column c.args.a.now c.args.b.now (sym c.eq.ensures ∙ c.if-eq.true)
    ((pointwise_decides ask_decides c.args.a.now.asks.items c.args.b.now.asks.items).0 (sym c.eq-then-eq.ensures ∙ h))

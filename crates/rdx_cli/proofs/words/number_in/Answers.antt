use Rattle.std.proofs.Common.{arith}
use Rattle.std.proofs.lemmas.Grind.{common_steps}
use Rattle.rdx_cli.specs.Inside.Rows.{IsNumber, IsNoNumber}
use Rattle.rdx_cli.proofs.Numbers.{no_other, not_read}
use Rattle.rdx_cli.proofs.words.number_in.Goals as goal

pub returns-in-Ok-clause-none : goal.returns-in-Ok-clause-none
returns-in-Ok-clause-none c =
    let word = c.args.word.now in
    let none : (IsNumber word c.in-Ok.number → ⊥) → IsNoNumber word = no_other word c.in-Ok.number c.parse.result c.parse.ensures.value.0 c.in-Ok.is
    in
    grind (arith, common_steps)

pub returns-in-Err-clause-none : goal.returns-in-Err-clause-none
returns-in-Err-clause-none c = not_read c.args.word.now c.in-Err.field-0 c.parse.result c.parse.ensures.value.0 c.in-Err.is

use Rattle.std.proofs.Common.{rules}
use Rattle.std.specs.Option.{IfSome, IfNone}
use Rattle.rdx_cli.specs.Inside.Rows.{Reads}
use Rattle.rdx_cli.specs.Words.{FitsNoRow, texts}
use Rattle.rdx_cli.proofs.Rows.{none_fits}
use Rattle.rdx_cli.proofs.words.row_of.Goals as goal

pub returns-clause-none : goal.returns-clause-none
returns-clause-none c =
    let words = texts c.args.words.now in
    let row : IfSome c.row_with.result (λ row. Reads words row) = search rules in
    let none : IfNone c.row_with.result (FitsNoRow words) = search rules in
    none_fits words c.row_with.result row none

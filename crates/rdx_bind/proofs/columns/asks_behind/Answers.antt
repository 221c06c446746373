use Rattle.std.proofs.Common.{◌≡◌, ℕ, List, [], ◌++◌, drop, sym, ◌∙◌, ap, arith}
use Rattle.std.proofs.lemmas.List.{append-nil}
use Rattle.rdx_lang.proofs.Rest.{rest_none}
use Rattle.rdx_bind.specs.Columns.{asks_behind}
use Rattle.rdx_bind.specs.Rows.{split_row_of, split_rows_of}
use Rattle.rdx_bind.specs.declared.asks.Ask.{Ask}
use Rattle.rdx_bind.proofs.AskedRows.{asks_behind-none}
use Rattle.rdx_bind.proofs.columns.asks_behind.Goals as goal

pub returns : goal.returns
returns c =
    let i : ℕ = c.loop-i.i in
    let left : List Ask = drop i c.args.asks.now in
    let e : asks_behind left (split_rows_of (drop i c.args.cells.now)) ≡ [] = ap (asks_behind left) (rest_none split_row_of c.args.cells.now i (omega arith)) ∙ asks_behind-none left in
    sym (append-nil c.loop-i.asked.items) ∙ ap (λ (xs : List Ask). c.loop-i.asked.items ++ xs) (sym e) ∙ c.loop-i.invariant

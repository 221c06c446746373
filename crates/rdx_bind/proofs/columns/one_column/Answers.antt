use Rattle.std.proofs.Common.{◌≡◌, ℕ, ◌+◌, List, [], ◌∷◌, ◌++◌, length, drop, ap, arith}
use Rattle.std.proofs.lemmas.Grind.{common_steps}
use Rattle.std.proofs.lemmas.List.{drop_more}
use Rattle.rdx_lang.proofs.Rest.{rest_at, rest_none}
use Rattle.rdx_bind.specs.Rows.{SplitRow, split_row_of, split_rows_of}
use Rattle.rdx_bind.specs.declared.asks.Ask.TheVariants.{Nothing}
use Rattle.rdx_bind.proofs.ColumnLoops.{last_left, ones-next, ones-end}
use Rattle.rdx_bind.proofs.columns.one_column.Goals as goal

pub loop-i-preserved : goal.loop-i-preserved
loop-i-preserved c =
    let i : ℕ = c.loop-i.i in
    let cell = c.index-cells-i.result in
    let next = c.index-nexts-i.result in
    let rows : List SplitRow = split_rows_of c.loop-i.found.items in
    let f : split_rows_of (drop i c.args.cells.now) ≡ split_row_of cell ∷ split_rows_of (drop (i + 1) c.args.cells.now) = rest_at split_row_of c.args.cells.now i cell (omega arith) c.index-cells-i.is in
    let g = ap split_rows_of (drop_more c.args.nexts.now i next (omega (arith, c.requires.behind))) in
    let w = rest_at split_row_of c.args.nexts.now (i + 1) next (omega (arith, c.requires.behind)) c.index-nexts-i.is in
    let q : split_rows_of c.push.new.self.items ≡ rows ++ split_row_of c.in_ok-both_rows.field-0 ∷ [] = grind (arith, common_steps) in
    ones-next rows (split_rows_of c.push.new.self.items) (drop_more c.args.asks.now i _ (omega (arith, c.requires.places))) f g w q c.in_ok-both_rows.ensures c.loop-i.invariant

pub returns : goal.returns
returns c =
    let i : ℕ = c.loop-i.i in
    let rows : List SplitRow = split_rows_of c.loop-i.found.items in
    let n : i ≡ length c.args.cells.now = omega arith in
    let e = last_left c.args.asks.now i (length c.args.cells.now) Nothing n c.requires.places in
    let f = rest_none split_row_of c.args.cells.now i (omega arith) in
    let g = ap split_rows_of (last_left c.args.nexts.now i (length c.args.cells.now) c.empty_row.result n c.requires.behind) in
    let q : split_rows_of c.push-2.new.self.items ≡ rows ++ split_row_of c.empty_row.result ∷ [] = grind (arith, common_steps) in
    ones-end rows (split_rows_of c.push-2.new.self.items) e f g q (ap (λ (r : SplitRow). r.matches) c.empty_row.ensures) (ap (λ (r : SplitRow). r.spots) c.empty_row.ensures) c.loop-i.invariant

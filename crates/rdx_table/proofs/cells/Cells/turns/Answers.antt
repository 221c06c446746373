use Rattle.std.proofs.Common.{◌≡◌, ◌<◌, ◌++◌, ℕ, List, [], ◌∷◌, ◌∙◌, ap, arith, length, drop, get_or}
use Rattle.std.proofs.lemmas.List.{drop_more, get_or_default, map_push}
use Rattle.rdx_term.specs.Tree.{trees}
use Rattle.rdx_lang.proofs.Rest.{rest_at, rest_none}
use Rattle.rdx_bind.specs.Rows.{SplitRow, split_row_of, split_rows_of}
use Rattle.rdx_bind.specs.declared.asks.Ask.{Ask}
use Rattle.rdx_bind.specs.declared.asks.Ask.TheVariants.{Nothing}
use Rattle.rdx_bind.proofs.ColumnLoops.{last_left, turns-next, turns-asked, turns-end}
use Rattle.rdx_store.specs.Stored.{tree_by_id}
use Rattle.rdx_table.specs.Inside.Cells.{cell_id}
use Rattle.rdx_table.specs.Inside.Looks.{trees_of_look}
use Rattle.rdx_table.proofs.cells.Cells.turns.Goals as goal

pub loop-i-preserved : goal.loop-i-preserved
loop-i-preserved c =
    let i : ℕ = c.loop-i.i in
    let ids : List ℕ = c.args.self.now.ids.now in
    let id : ℕ = cell_id c.args.self.now i in
    let h : i < length ids = omega arith in
    let cells : List SplitRow = split_rows_of c.loop-i.cells.items in
    let f = ap trees (rest_at (tree_by_id (trees_of_look c.args.self.now.look)) ids i id h (get_or_default ids i 0 id h)) in
    let g = drop_more c.args.asks.now i Nothing (omega (arith, c.requires.places)) in
    let w : split_rows_of c.push-in-loop-i.new.list.items ≡ cells ++ split_row_of c.in_ok-cell.cell ∷ [] =
    ap split_rows_of c.in_ok-push-2.ensures ∙ map_push split_row_of c.loop-i.cells.items c.in_ok-cell.cell in
    turns-next c.loop-i.asked.items c.push.new.list.items cells (split_rows_of c.push-in-loop-i.new.list.items) (omega arith) f g
    c.and-ask.ensures c.behind-before.ensures c.in_ok-push.ensures w c.in_ok-cell.ensures.found c.loop-i.invariant

pub returns-clause-asked : goal.returns-clause-asked
returns-clause-asked c =
    let i : ℕ = c.loop-i.i in
    let ids : List ℕ = c.args.self.now.ids.now in
    let asks : List Ask = c.args.asks.now in
    let n : i ≡ length ids = omega arith in
    let f : drop i asks ≡ get_or asks (length ids) Nothing ∷ [] = last_left asks i (length ids) Nothing n c.requires.places in
    turns-asked c.loop-i.asked.items c.push-2.new.list.items (split_rows_of c.loop-i.cells.items)
    (ap trees (rest_none (tree_by_id (trees_of_look c.args.self.now.look)) ids i (omega arith))) f
    c.in_ok-push-3.ensures c.and.ensures c.loop-i.invariant

pub returns-clause-cells : goal.returns-clause-cells
returns-clause-cells c =
    let i : ℕ = c.loop-i.i in
    let ids : List ℕ = c.args.self.now.ids.now in
    let asks : List Ask = c.args.asks.now in
    let n : i ≡ length ids = omega arith in
    let f : drop i asks ≡ get_or asks (length ids) Nothing ∷ [] = last_left asks i (length ids) Nothing n c.requires.places in
    turns-end c.loop-i.asked.items c.push-2.new.list.items (split_rows_of c.loop-i.cells.items)
    (ap trees (rest_none (tree_by_id (trees_of_look c.args.self.now.look)) ids i (omega arith))) f
    c.in_ok-push-3.ensures c.and.ensures c.loop-i.invariant

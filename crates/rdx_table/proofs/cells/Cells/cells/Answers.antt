use Rattle.std.proofs.Common.{◌≡◌, ◌<◌, ◌++◌, ℕ, List, [], ◌∷◌, ◌∙◌, ap, arith, length}
use Rattle.std.proofs.lemmas.List.{drop_more, get_or_default, map_push}
use Rattle.rdx_term.specs.Tree.{trees}
use Rattle.rdx_lang.proofs.Rest.{rest_at, rest_none}
use Rattle.rdx_bind.specs.Rows.{SplitRow, split_row_of, split_rows_of}
use Rattle.rdx_bind.specs.declared.asks.Ask.TheVariants.{Nothing}
use Rattle.rdx_bind.proofs.ColumnLoops.{last_left, cells-next, cells-end}
use Rattle.rdx_store.specs.Stored.{tree_by_id}
use Rattle.rdx_table.specs.Inside.Cells.{cell_id}
use Rattle.rdx_table.specs.Inside.Looks.{trees_of_look}
use Rattle.rdx_table.proofs.cells.Cells.cells.Goals as goal

pub loop-i-preserved : goal.loop-i-preserved
loop-i-preserved c =
    let i : ℕ = c.loop-i.i in
    let ids : List ℕ = c.args.self.now.ids.now in
    let id : ℕ = cell_id c.args.self.now i in
    let h : i < length ids = omega arith in
    let cells : List SplitRow = split_rows_of c.loop-i.cells.items in
    let f = ap trees (rest_at (tree_by_id (trees_of_look c.args.self.now.look)) ids i id h (get_or_default ids i 0 id h)) in
    let q : split_rows_of c.push.new.list.items ≡ cells ++ split_row_of c.in_ok-cell.cell ∷ [] =
    ap split_rows_of c.in_ok-push.ensures ∙ map_push split_row_of c.loop-i.cells.items c.in_ok-cell.cell in
    cells-next cells (split_rows_of c.push.new.list.items) (omega arith) f (drop_more c.args.asks.now i _ (omega (arith, c.requires.places))) q
    c.in_ok-cell.ensures.found c.loop-i.invariant

pub returns-clause-found : goal.returns-clause-found
returns-clause-found c =
    let i : ℕ = c.loop-i.i in
    let ids : List ℕ = c.args.self.now.ids.now in
    let n : i ≡ length ids = omega arith in
    cells-end (split_rows_of c.loop-i.cells.items) (ap trees (rest_none (tree_by_id (trees_of_look c.args.self.now.look)) ids i (omega arith)))
    (last_left c.args.asks.now i (length ids) Nothing n c.requires.places) c.loop-i.invariant

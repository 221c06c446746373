use Rattle.std.proofs.Common.{◌≡◌, ◌+◌, ◌↔◌, ℕ, List, [], ◌∷◌, drop, ap, arith}
use Rattle.rdx_lang.specs.Bindings.{Binding}
use Rattle.rdx_lang.specs.Collecting.{Arises, HasExactly}
use Rattle.rdx_lang.specs.Shown.{bindings_of}
use Rattle.rdx_lang.proofs.Rest.{rest_at, rest_none}
use Rattle.rdx_bind.specs.Choices.{IsContinued, IsLonger}
use Rattle.rdx_bind.specs.Combining.{rows_of}
use Rattle.rdx_bind.specs.Rows.{all_matches, split_row_of, split_rows_of}
use Rattle.rdx_bind.proofs.ChoiceLaws.{continued_more, continued_none}
use Rattle.rdx_bind.proofs.choices.with_matches.Goals as goal

pub loop-cell-preserved : goal.loop-cell-preserved
loop-cell-preserved c cs =
    let xs = c.args.cells.now in
    let k : ℕ = c.loop-cell.cell-index in
    let row : List Binding = bindings_of c.cell-item.result.matches.items in
    let rows : List (List Binding) = all_matches (split_rows_of (drop (k + 1) xs)) in
    let e : all_matches (split_rows_of (drop k xs)) ≡ row ∷ rows =
    ap all_matches (rest_at split_row_of xs k c.cell-item.result c.loop-cell-test.true c.cell-item.is) in
    let h : HasExactly (rows_of c.in_ok-found.found.items) (Arises (IsLonger row) (rows_of c.loop-cell.found.items)) =
    rw c.deref.ensures.value at c.in_ok-found.ensures in
    let i : Arises (IsContinued (row ∷ rows)) (rows_of c.loop-cell.found.items) cs ↔ Arises (IsContinued (all_matches (split_rows_of xs))) (rows_of c.args.lists.items) cs =
    rw e at (c.loop-cell.invariant cs) in
    let m = continued_more row rows (rows_of c.loop-cell.found.items) (rows_of c.in_ok-found.found.items) h cs in
    (λ a. i.0 (m.0 a), λ a. m.1 (i.1 a))

pub returns : goal.returns
returns c =
    let xs = c.args.cells.now in
    let found : List (List Binding) = rows_of c.loop-cell.found.items in
    let e : all_matches (split_rows_of (drop c.loop-cell.cell-index xs)) ≡ [] =
    ap all_matches (rest_none split_row_of xs c.loop-cell.cell-index (omega arith)) in
    let i : (cs : List Binding) → (Arises (IsContinued []) found cs ↔ Arises (IsContinued (all_matches (split_rows_of xs))) (rows_of c.args.lists.items) cs) =
    rw e at c.loop-cell.invariant in
    record { sound = λ cs m. (i cs).0 ((continued_none found cs).1 m); complete = λ cs a. (continued_none found cs).0 ((i cs).1 a) }

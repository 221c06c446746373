use Rattle.std.proofs.Common.{◌≡◌, ◌+◌, inl, inr, ◌∷◌, List, [], drop, ap, arith}
use Rattle.rdx_lang.specs.Bindings.{Binding}
use Rattle.rdx_lang.specs.Shown.{bindings_of}
use Rattle.rdx_lang.proofs.Collecting.{In_along, no_member}
use Rattle.rdx_lang.proofs.Rest.{rest_at, rest_none}
use Rattle.rdx_bind.specs.Choices.{ArePlain}
use Rattle.rdx_bind.specs.Rows.{all_matches, split_row_of, split_rows_of}
use Rattle.rdx_bind.proofs.Repeating.{passed}
use Rattle.rdx_bind.proofs.repetition.rows_are_plain.Goals as goal

pub loop-cell-preserved : goal.loop-cell-preserved
loop-cell-preserved c row h =
    let xs = c.args.cells.now in
    let d : List Binding = bindings_of c.cell-item.result.matches.items in
    let more : List (List Binding) = all_matches (split_rows_of (drop (c.loop-cell.cell-index + 1) xs)) in
    let e : all_matches (split_rows_of (drop c.loop-cell.cell-index xs)) ≡ d ∷ more =
    ap all_matches (rest_at split_row_of xs c.loop-cell.cell-index c.cell-item.result c.loop-cell-test.true c.cell-item.is) in
    let f : ArePlain d = rw c.deref.ensures.value at (c.are_plain.ensures cc) in
    passed ArePlain row d more f (rw e at (c.loop-cell.invariant row h))

pub returns : goal.returns
returns c t row h =
    let xs = c.args.cells.now in
    let e : all_matches (split_rows_of (drop c.loop-cell.cell-index xs)) ≡ [] =
    ap all_matches (rest_none split_row_of xs c.loop-cell.cell-index (omega arith)) in
    elim (c.loop-cell.invariant row h) [ inl i ↦ no_member (In_along (all_matches (split_rows_of (drop c.loop-cell.cell-index xs))) [] e i) | inr f ↦ f ]

use Rattle.std.proofs.Common.{◌≡◌, ◌+◌, ◌-◌, ℕ, List, length, take, drop, ap, ◌∙◌, arith}
use Rattle.rdx_term.specs.Tree.{Tree}
use Rattle.rdx_store.specs.Stored.{tree_by_id}
use Rattle.rdx_table.specs.Inside.Looks.{trees_of_look}
use Rattle.rdx_table.specs.Inside.Tasks.{items_in}
use Rattle.rdx_table.proofs.ColumnTrees.{items-length, items-part, ids-part}
use Rattle.rdx_table.proofs.look.Look.terms.Goals as goal

pub overflow_add-end : goal.overflow_add-end
overflow_add-end c =
    let ts : List Tree = trees_of_look c.args.self.now in
    let n = items-length ts (tree_by_id ts c.args.column.now.id) c.items-items.result.now c.items-items.ensures.items in
    omega (arith, c.requires.places, c.requires.some, n)

pub offset_bounds-items-column : goal.offset_bounds-items-column
offset_bounds-items-column c =
    let ts : List Tree = trees_of_look c.args.self.now in
    let n = items-length ts (tree_by_id ts c.args.column.now.id) c.items-items.result.now c.items-items.ensures.items in
    omega (arith, c.requires.places, c.requires.some, n)

pub slice_bounds-result-end : goal.slice_bounds-result-end
slice_bounds-result-end c =
    let ts : List Tree = trees_of_look c.args.self.now in
    let n = items-length ts (tree_by_id ts c.args.column.now.id) c.items-items.result.now c.items-items.ensures.items in
    omega (arith, c.requires.places, c.requires.some, n)

pub returns-clause-ids : goal.returns-clause-ids
returns-clause-ids c =
    let k : ℕ = c.args.column.now.place in
    ids-part (k + (c.len.result - 1) - k) k c.items-items.result.now (length (trees_of_look c.args.self.now)) c.items-items.ensures.ids

pub returns-clause-terms : goal.returns-clause-terms
returns-clause-terms c =
    let ts : List Tree = trees_of_look c.args.self.now in
    let t : Tree = tree_by_id ts c.args.column.now.id in
    let k : ℕ = c.args.column.now.place in
    let n : k + (c.len.result - 1) - k ≡ length c.args.column.now.asks.items - 1 = omega (arith, c.len.ensures) in
    items-part ts t c.items-items.result.now c.items-items.ensures.items (k + (c.len.result - 1) - k) k
    ∙ ap (λ (j : ℕ). take j (drop k (items_in t))) n

use Rattle.std.proofs.Common.{◌≡◌, ◌<◌, length, map, Some, arith}
use Rattle.std.proofs.lemmas.Grind.{common_steps}
use Rattle.rdx_term.specs.View.{tree_of}
use Rattle.rdx_term.proofs.Items.{mark-place, item_has_fewer_nodes}
use Rattle.rdx_fill.proofs.FilledItems.{filled_item-is, filled_item-limits, filled_list-limits}
use Rattle.rdx_fill.proofs.filling.+filled.Goals as goal

pub offset_bounds-items-k : goal.offset_bounds-items-k
offset_bounds-items-k t c = grind (arith, common_steps, mark-place)

pub bounds-items-k : goal.bounds-items-k
bounds-items-k t c = grind (arith, common_steps, mark-place)

pub filled-requires : goal.filled-requires
filled-requires t c =
    let e : map tree_of c.items-items.result.now ≡ c.in-List.node.value.items = grind (arith, common_steps) in
    let m : c.in-List.node.value.mark ≡ Some c.in-Some.k = grind (arith, common_steps) in
    let h : c.in-Some.k < length c.items-items.result.now = grind (arith, common_steps, mark-place) in
    grind (arith, common_steps, mark-place, item_has_fewer_nodes c.in-List.node.value c.items-items.result.now c.in-Some.k c.index-items-k.result e h, filled_item-limits c.in-List.node.value c.items-items.result.now c.in-Some.k c.index-items-k.result (tree_of c.args.part.now))

pub replaced-requires-clause-place : goal.replaced-requires-clause-place
replaced-requires-clause-place t c = grind (arith, common_steps, mark-place)

pub replaced-requires-clause-limits : goal.replaced-requires-clause-limits
replaced-requires-clause-limits t c = grind (arith, common_steps, mark-place, filled_list-limits c.in-List.node.value c.items-items.result.now c.in-Some.k c.index-items-k.result c.in_ok-item-in-Some.item (tree_of c.args.part.now))

pub returns-in_ok-item-in-Some : goal.returns-in_ok-item-in-Some
returns-in_ok-item-in-Some t c = grind (arith, common_steps, mark-place, filled_item-is c.in-List.node.value c.items-items.result.now c.in-Some.k c.index-items-k.result c.in_ok-item-in-Some.item (tree_of c.args.part.now))

use Rattle.std.proofs.Common.{◌≡◌, ◌<◌, length, map, Some, arith}
use Rattle.rdx_term.specs.View.{tree_of}
use Rattle.std.proofs.lemmas.Grind.{common_steps}
use Rattle.rdx_term.proofs.Items.{mark-place, item_has_fewer_nodes}
use Rattle.rdx_fill.proofs.FilledItems.{path-item, path-item_short}
use Rattle.rdx_fill.proofs.paths.+path_length.Goals as goal

pub offset_bounds-items-k : goal.offset_bounds-items-k
offset_bounds-items-k t c = grind (arith, common_steps, mark-place)

pub bounds-items-k : goal.bounds-items-k
bounds-items-k t c = grind (arith, common_steps, mark-place)

pub path_length-requires : goal.path_length-requires
path_length-requires t c =
    let e : map tree_of c.items.result.now ≡ c.in-List.node.value.items = grind (arith, common_steps) in
    let m : c.in-List.node.value.mark ≡ Some c.in-Some.k = grind (arith, common_steps) in
    let h : c.in-Some.k < length c.items.result.now = grind (arith, common_steps, mark-place) in
    grind (arith, common_steps, mark-place, item_has_fewer_nodes c.in-List.node.value c.items.result.now c.in-Some.k c.index-items-k.result e h)

pub returns-in-Some-clause-value : goal.returns-in-Some-clause-value
returns-in-Some-clause-value t c =
    let e : map tree_of c.items.result.now ≡ c.in-List.node.value.items = grind (arith, common_steps) in
    let m : c.in-List.node.value.mark ≡ Some c.in-Some.k = grind (arith, common_steps) in
    let h : c.in-Some.k < length c.items.result.now = grind (arith, common_steps, mark-place) in
    grind (arith, common_steps, mark-place, path-item c.in-List.node.value c.items.result.now c.in-Some.k c.index-items-k.result e m h)

pub returns-in-Some-clause-small : goal.returns-in-Some-clause-small
returns-in-Some-clause-small t c =
    let e : map tree_of c.items.result.now ≡ c.in-List.node.value.items = grind (arith, common_steps) in
    let m : c.in-List.node.value.mark ≡ Some c.in-Some.k = grind (arith, common_steps) in
    let h : c.in-Some.k < length c.items.result.now = grind (arith, common_steps, mark-place) in
    grind (arith, common_steps, mark-place, path-item_short c.in-List.node.value c.items.result.now c.in-Some.k c.index-items-k.result e m h)

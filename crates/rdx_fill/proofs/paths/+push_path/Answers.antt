use Rattle.std.proofs.Common.{◌≡◌, ◌<◌, length, map, Some, arith}
use Rattle.rdx_term.specs.View.{tree_of}
use Rattle.std.proofs.lemmas.Grind.{common_steps}
use Rattle.rdx_term.proofs.Items.{mark-place, item_has_fewer_nodes}
use Rattle.rdx_fill.proofs.FilledItems.{path-item}
use Rattle.rdx_fill.proofs.paths.+push_path.Goals as goal

pub offset_bounds-items-k : goal.offset_bounds-items-k
offset_bounds-items-k t c = grind (arith, common_steps, mark-place)

pub bounds-items-k : goal.bounds-items-k
bounds-items-k t c = grind (arith, common_steps, mark-place)

pub push_path-requires : goal.push_path-requires
push_path-requires t c =
    let e : map tree_of c.items.result.now ≡ c.in-List.node.value.items = grind (arith, common_steps) in
    let m : c.in-List.node.value.mark ≡ Some c.in-Some.k = grind (arith, common_steps) in
    let h : c.in-Some.k < length c.items.result.now = grind (arith, common_steps, mark-place) in
    grind (arith, common_steps, mark-place, item_has_fewer_nodes c.in-List.node.value c.items.result.now c.in-Some.k c.index-items-k.result e h)

pub returns-in_ok-push-in-Some : goal.returns-in_ok-push-in-Some
returns-in_ok-push-in-Some t c =
    let e : map tree_of c.items.result.now ≡ c.in-List.node.value.items = grind (arith, common_steps) in
    let m : c.in-List.node.value.mark ≡ Some c.in-Some.k = grind (arith, common_steps) in
    let h : c.in-Some.k < length c.items.result.now = grind (arith, common_steps, mark-place) in
    grind (arith, common_steps, mark-place, path-item c.in-List.node.value c.items.result.now c.in-Some.k c.index-items-k.result e m h)

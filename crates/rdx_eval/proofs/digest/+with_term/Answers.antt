use Rattle.std.proofs.Common.{arith, ◌≡◌, ◌<◌, length, map}
use Rattle.std.proofs.lemmas.Grind.{common_steps}
use Rattle.rdx_term.specs.View.{tree_of}
use Rattle.rdx_term.proofs.Items.{item_has_fewer_nodes}
use Rattle.rdx_eval.proofs.digest.+with_term.Goals as goal

pub with_term-number-requires : goal.with_term-number-requires
with_term-number-requires number c =
    let e : map tree_of c.items-items.result.now ≡ c.in-List.node.value.items = grind (arith, common_steps) in
    let h : c.loop-i.i < length c.items-items.result.now = grind (arith, common_steps) in
    grind (arith, common_steps, item_has_fewer_nodes c.in-List.node.value c.items-items.result.now c.loop-i.i c.index-items-i.result e h)

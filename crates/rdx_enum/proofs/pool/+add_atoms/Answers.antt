use Rattle.std.proofs.Common.{◌≡◌, map, arith}
use Rattle.std.proofs.lemmas.Grind.{common_steps}
use Rattle.rdx_term.specs.View.{tree_of}
use Rattle.rdx_term.proofs.Items.{item_has_fewer_nodes}
use Rattle.rdx_enum.proofs.pool.+add_atoms.Goals as goal

pub add_atoms-requires : goal.add_atoms-requires
add_atoms-requires t c =
    let e : map tree_of c.items-item-items.result.now ≡ c.in-List.node.value.items = grind (arith, common_steps) in
    grind (arith, common_steps, item_has_fewer_nodes c.in-List.node.value c.items-item-items.result.now c.loop-item.item-index c.item-item.result e c.loop-item-test.true)

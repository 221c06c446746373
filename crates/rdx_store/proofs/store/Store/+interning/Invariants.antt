use Rattle.std.proofs.Common.{◌≡◌, ◌+◌, ◌*◌, length, map, take}
use Rattle.rdx_term.specs.Tree.{tree_nodes, trees_nodes}
use Rattle.rdx_term.specs.View.{tree_of, trees_of}
use Rattle.rdx_store.specs.Stored.{trees_by_ids, AreIds, Extends}
use Rattle.rdx_store.proofs.store.Store.+interning.Given as goal

abbrev pub decreases-id_of : goal.decreases-id_of
decreases-id_of l = 3 * tree_nodes (tree_of l.t.now) + 1

abbrev pub decreases-key_of : goal.decreases-key_of
decreases-key_of l = 3 * tree_nodes (tree_of l.t.now)

abbrev pub decreases-ids_of : goal.decreases-ids_of
decreases-ids_of l = 3 * trees_nodes (trees_of l.ts.now) + 2

abbrev pub invariant-ids_of-loop-t : goal.invariant-ids_of-loop-t
invariant-ids_of-loop-t l = record {
  kept : Extends l.fn.self l.self;
  ids : AreIds l.ids.items (length l.self);
  trees : trees_by_ids l.self l.ids.items ≡ map tree_of (take l.t-index l.ts);
}

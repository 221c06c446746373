use Rattle.std.proofs.Common.{◌≡◌, ◌<◌, ◌+◌, drop}
use Rattle.rdx_term.specs.Tree.{trees_nodes}
use Rattle.rdx_term.specs.View.{trees_of}
use Rattle.rdx_term.proofs.term.measures.items_nodes.Given as goal

abbrev pub invariant-loop-item : goal.invariant-loop-item
invariant-loop-item l = record {
  sum : l.nodes + trees_nodes (trees_of (drop l.item-index l.items)) ≡ trees_nodes (trees_of l.items);
  small : l.nodes < 4_000_000;
}

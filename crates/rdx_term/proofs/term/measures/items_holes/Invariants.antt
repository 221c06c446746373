use Rattle.std.proofs.Common.{◌≡◌, ◌<◌, ◌+◌, drop}
use Rattle.rdx_term.specs.Tree.{trees_nodes, trees_holes}
use Rattle.rdx_term.specs.View.{trees_of}
use Rattle.rdx_term.proofs.term.measures.items_holes.Given as goal

abbrev pub invariant-loop-item : goal.invariant-loop-item
invariant-loop-item l = record {
  sum : l.holes + trees_holes (trees_of (drop l.item-index l.items)) ≡ trees_holes (trees_of l.items);
  small : l.holes + trees_nodes (trees_of (drop l.item-index l.items)) < 4_000_000;
}

use Rattle.std.proofs.Common.{◌≡◌, ◌≤◌, drop, max}
use Rattle.rdx_term.specs.Tree.{trees_depth}
use Rattle.rdx_term.specs.Context.{AreMarked}
use Rattle.rdx_term.specs.Terms.{AreSpelled}
use Rattle.rdx_term.specs.View.{trees_of}
use Rattle.rdx_term.proofs.term.measures.items_depth.Given as goal

abbrev pub invariant-loop-item : goal.invariant-loop-item
invariant-loop-item l = record {
  deepest : max l.depth (trees_depth (trees_of (drop l.item-index l.items))) ≡ trees_depth (trees_of l.items);
  marked : AreMarked (trees_of (drop l.item-index l.items)) → AreMarked (trees_of l.items);
  spelled : AreSpelled (trees_of (drop l.item-index l.items)) → AreSpelled (trees_of l.items);
  shallow : l.depth ≤ 500;
}

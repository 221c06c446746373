use Rattle.std.proofs.Common.{◌≡◌, ◌+◌, drop}
use Rattle.rdx_term.specs.Building.{hole_place}
use Rattle.rdx_term.specs.View.{trees_of}
use Rattle.rdx_term.proofs.term.build.first_with_hole.Given as goal

abbrev pub invariant-loop-item : goal.invariant-loop-item
invariant-loop-item l = record {
  place : l.place ≡ l.item-index;
  first : l.place + hole_place (trees_of (drop l.item-index l.items)) ≡ hole_place (trees_of l.items);
}

use Rattle.std.proofs.Common.{◌≡◌, ◌+◌, ◌*◌, ◌≤◌, drop}
use Rattle.rdx_term.specs.Tree.{tree_nodes, trees_nodes}
use Rattle.rdx_term.specs.View.{tree_of, trees_of}
use Rattle.rdx_alpha.specs.Nameless.{nameless_among}
use Rattle.rdx_alpha.specs.View.{forms_of}
use Rattle.rdx_alpha.specs.Inside.Around.{around_of}
use Rattle.rdx_alpha.specs.Inside.PartView.{roles_of, part_tree, part_trees}
use Rattle.rdx_alpha.specs.Inside.Same.{same_items}
use Rattle.rdx_alpha.proofs.alpha.+same.Given as goal

abbrev pub decreases-same_terms : goal.decreases-same_terms
decreases-same_terms l = 8 * tree_nodes (tree_of l.first.now)

abbrev pub decreases-same_lists : goal.decreases-same_lists
decreases-same_lists l = 8 * trees_nodes (trees_of l.first.now) + 7

abbrev pub decreases-same_parts : goal.decreases-same_parts
decreases-same_parts l = 8 * trees_nodes (part_trees l.parts.now) + 6

abbrev pub decreases-same_part : goal.decreases-same_part
decreases-same_part l = 8 * tree_nodes (part_tree l.part.now) + 2

abbrev pub decreases-same_as_other : goal.decreases-same_as_other
decreases-same_as_other l = 8 * tree_nodes (tree_of l.first.now) + 1

abbrev pub invariant-same_parts-loop-k : goal.invariant-same_parts-loop-k
invariant-same_parts-loop-k l = record {
  rest : same_items
      (nameless_among (forms_of l.forms) (around_of l.fn.one.items) (roles_of (drop l.k l.parts)) (part_trees (drop l.k l.parts)))
      (nameless_among (forms_of l.forms) (around_of l.fn.two.items) (roles_of (drop l.k l.others)) (part_trees (drop l.k l.others)))
      ≡ same_items
      (nameless_among (forms_of l.forms) (around_of l.fn.one.items) (roles_of l.parts) (part_trees l.parts))
      (nameless_among (forms_of l.forms) (around_of l.fn.two.items) (roles_of l.others) (part_trees l.others));
  one : around_of l.one.items ≡ around_of l.fn.one.items;
  two : around_of l.two.items ≡ around_of l.fn.two.items;
  nodes : trees_nodes (part_trees (drop l.k l.parts)) ≤ trees_nodes (part_trees l.parts);
}

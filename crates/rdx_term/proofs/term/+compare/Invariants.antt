use Rattle.std.proofs.Common.{◌≡◌, drop}
use Rattle.rdx_term.specs.Order.{trees_cmp}
use Rattle.rdx_term.specs.View.{trees_of}
use Rattle.rdx_term.proofs.term.+compare.Given as goal

abbrev pub invariant-Node::compare-loop-i : goal.invariant-Node::compare-loop-i
invariant-Node::compare-loop-i l =
    trees_cmp (trees_of l.self-inside.items.items) (trees_of l.other-inside.items.items)
    ≡ trees_cmp (trees_of (drop l.i l.self-inside.items.items)) (trees_of (drop l.i l.other-inside.items.items))

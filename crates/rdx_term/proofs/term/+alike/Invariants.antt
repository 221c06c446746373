use Rattle.std.proofs.Common.{◌≡◌, drop}
use Rattle.rdx_term.specs.Inside.Alike.{are_alike}
use Rattle.rdx_term.specs.View.{trees_of}
use Rattle.rdx_term.proofs.term.+alike.Given as goal

abbrev pub invariant-Node::is_alike-loop-i : goal.invariant-Node::is_alike-loop-i
invariant-Node::is_alike-loop-i l =
    are_alike (trees_of l.self-inside.items.items) (trees_of l.other-inside.items.items)
    ≡ are_alike (trees_of (drop l.i l.self-inside.items.items)) (trees_of (drop l.i l.other-inside.items.items))

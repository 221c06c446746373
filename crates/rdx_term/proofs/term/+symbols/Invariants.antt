use Rattle.std.proofs.Common.{◌≡◌, drop}
use Rattle.rdx_term.specs.Symbols.{have_symbol}
use Rattle.rdx_term.specs.Tree.{trees}
use Rattle.rdx_term.specs.View.{trees_of}
use Rattle.rdx_term.proofs.term.+symbols.Given as goal

abbrev pub invariant-Node::has_symbol-loop-item : goal.invariant-Node::has_symbol-loop-item
invariant-Node::has_symbol-loop-item l = have_symbol l.name (trees l.self.items) ≡ have_symbol l.name (trees_of (drop l.item-index l.item-items))

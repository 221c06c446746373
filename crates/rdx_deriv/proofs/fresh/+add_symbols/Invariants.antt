use Rattle.std.proofs.Common.{◌≡◌, ◌++◌, drop}
use Rattle.rdx_term.specs.Tree.{tree_nodes}
use Rattle.rdx_term.specs.View.{tree_of}
use Rattle.rdx_eval.proofs.Symbols.{symbols_in}
use Rattle.rdx_deriv.proofs.fresh.+add_symbols.Given as goal

abbrev pub decreases-add_symbols : goal.decreases-add_symbols
decreases-add_symbols l = tree_nodes (tree_of l.t.now)

abbrev pub invariant-loop-item : goal.invariant-loop-item
invariant-loop-item l = l.fn.found.items ++ symbols_in l.item-items ≡ l.found.items ++ symbols_in (drop l.item-index l.item-items)

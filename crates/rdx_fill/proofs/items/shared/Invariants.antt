use Rattle.std.proofs.Common.{◌≡◌, take, map}
use Rattle.rdx_term.specs.View.{tree_of}
use Rattle.rdx_fill.proofs.items.shared.Given as goal

abbrev pub invariant-loop-item : goal.invariant-loop-item
invariant-loop-item l = map tree_of l.copies.items ≡ map tree_of (take l.item-index l.items)

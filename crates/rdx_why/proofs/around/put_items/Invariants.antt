use Rattle.std.proofs.Common.{◌≡◌, ◌++◌, drop, map}
use Rattle.rdx_lang.specs.PatternView.{slot_of}
use Rattle.rdx_why.proofs.around.put_items.Given as goal

abbrev pub invariant-loop-item : goal.invariant-loop-item
invariant-loop-item l =
    map slot_of l.fn.put.items ++ map slot_of l.items ≡ map slot_of l.put.items ++ map slot_of (drop l.item-index l.items)

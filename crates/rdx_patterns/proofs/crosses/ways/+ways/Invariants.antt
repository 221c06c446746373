use Rattle.std.proofs.Common.{◌≡◌, ◌++◌, drop, map}
use Rattle.rdx_lang.specs.Crosses as model
use Rattle.rdx_lang.specs.PatternView.{slot_of, items_of}
use Rattle.rdx_patterns.proofs.crosses.ways.+ways.Given as goal

abbrev pub invariant-add_item_ways-loop-item : goal.invariant-add_item_ways-loop-item
invariant-add_item_ways-loop-item l =
    l.out.items ++ model.item_ways (items_of (map slot_of (drop l.item-index l.items)))
    ≡ l.fn.out.items ++ model.item_ways (items_of (map slot_of l.items))

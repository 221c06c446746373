use Rattle.std.proofs.Common.{◌≡◌, ◌++◌, drop, map}
use Rattle.rdx_lang.specs.PatternView.{slot_of, items_of}
use Rattle.rdx_nodes.specs.Inside.Forgetting.{item_binders}
use Rattle.rdx_nodes.specs.Inside.Once.{bytes_of}
use Rattle.rdx_nodes.proofs.once.+places.Given as goal

abbrev pub invariant-add_item_places-loop-item : goal.invariant-add_item_places-loop-item
invariant-add_item_places-loop-item l =
    bytes_of l.out.items ++ item_binders (items_of (map slot_of (drop l.item-index l.items)))
    ≡ bytes_of l.fn.out.items ++ item_binders (items_of (map slot_of l.items))

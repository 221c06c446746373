use Rattle.std.proofs.Common.{◌≡◌, drop, map}
use Rattle.rdx_lang.specs.Inside.Keys.{names_in}
use Rattle.rdx_lang.specs.Names as model
use Rattle.rdx_lang.specs.PatternView.{slot_of, items_of}
use Rattle.rdx_lang.proofs.names.+names.Given as goal

abbrev pub invariant-add_item_names-loop-item : goal.invariant-add_item_names-loop-item
invariant-add_item_names-loop-item l =
    model.add_names (model.item_names (items_of (map slot_of (drop l.item-index l.items)))) (names_in l.out)
    ≡ model.add_names (model.item_names (items_of (map slot_of l.items))) (names_in l.fn.out)

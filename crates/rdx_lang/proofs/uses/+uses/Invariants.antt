use Rattle.std.proofs.Common.{◌≡◌, ◌++◌, drop, map}
use Rattle.rdx_lang.specs.Depths as model
use Rattle.rdx_lang.specs.PatternView.{slot_of, items_of}
use Rattle.rdx_lang.specs.Inside.Capped.{capped_uses, uses_in}
use Rattle.rdx_lang.proofs.uses.+uses.Given as goal

abbrev pub invariant-add_item_uses-loop-item : goal.invariant-add_item_uses-loop-item
invariant-add_item_uses-loop-item l =
    uses_in l.out.items ++ capped_uses (model.item_uses l.depth (items_of (map slot_of (drop l.item-index l.items))))
    ≡ uses_in l.fn.out.items ++ capped_uses (model.item_uses l.depth (items_of (map slot_of l.items)))

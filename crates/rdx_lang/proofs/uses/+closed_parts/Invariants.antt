use Rattle.std.proofs.Common.{◌≡◌, drop, map}
use Rattle.rdx_lang.specs.Depths as model
use Rattle.rdx_lang.specs.PatternView.{slot_of, items_of}
use Rattle.rdx_lang.proofs.uses.+closed_parts.Given as goal

abbrev pub invariant-closed_items_fit-loop-item : goal.invariant-closed_items_fit-loop-item
invariant-closed_items_fit-loop-item l =
    model.closed_items_fit (items_of (map slot_of (drop l.item-index l.items))) ≡ model.closed_items_fit (items_of (map slot_of l.items))

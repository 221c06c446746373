use Rattle.std.proofs.Common.{◌≡◌, drop, map}
use Rattle.rdx_lang.specs.Nodes.{items_nodes}
use Rattle.rdx_lang.specs.PatternView.{slot_of, items_of}
use Rattle.rdx_enum.proofs.order.+behind.Given as goal

abbrev pub invariant-behind_items-loop-item : goal.invariant-behind_items-loop-item
invariant-behind_items-loop-item l = drop (items_nodes (items_of (map slot_of (drop l.item-index l.items)))) l.left ≡ drop (items_nodes (items_of (map slot_of l.items))) l.ranks

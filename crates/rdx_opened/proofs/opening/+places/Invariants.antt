use Rattle.std.proofs.Common.{◌++◌, List, drop, map}
use Rattle.rdx_lang.specs.PatternView.{Slot, slot_of, items_of}
use Rattle.rdx_opened.specs.Inside.Marks.{OpensItemsBehind}
use Rattle.rdx_opened.specs.Opening.{Mark}
use Rattle.rdx_opened.specs.Seeking.{marks_of}
use Rattle.rdx_opened.proofs.opening.+places.Given as goal

-- whatever the items that are left open to, all open to what is found and that
abbrev pub invariant-open_items-loop-item : goal.invariant-open_items-loop-item
invariant-open_items-loop-item l =
    (os : List Slot) (after : List Mark)
    → OpensItemsBehind l.base (marks_of l.marks.items) after (items_of (map slot_of (drop l.item-index l.items))) (items_of os)
    → OpensItemsBehind l.base (marks_of l.fn.marks.items) after (items_of (map slot_of l.items)) (items_of (map slot_of l.found.items ++ os))

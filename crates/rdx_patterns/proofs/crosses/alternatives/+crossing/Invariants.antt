use Rattle.std.proofs.Common.{◌≡◌, ◌++◌, drop, map}
use Rattle.rdx_lang.specs.Crosses as model
use Rattle.rdx_lang.specs.Patterns.{seq}
use Rattle.rdx_patterns.proofs.CrossedItems.{crossed_from}
use Rattle.rdx_lang.specs.PatternView.{patterns_of, slot_of, items_of}
use Rattle.rdx_patterns.proofs.crosses.alternatives.+crossing.Given as goal

abbrev pub invariant-crossed_items-loop-place : goal.invariant-crossed_items-loop-place
invariant-crossed_items-loop-place l =
    patterns_of l.found.items
    ++ map seq (crossed_from l.to (model.unnamed_items (items_of (map slot_of l.items))) l.place
    (model.unnamed_items (items_of (map slot_of (drop l.place l.items)))))
    ≡ map seq (model.crossed_items l.to (model.unnamed_items (items_of (map slot_of l.items))))

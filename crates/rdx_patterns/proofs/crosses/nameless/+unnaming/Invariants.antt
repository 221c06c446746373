use Rattle.std.proofs.Common.{◌≡◌, ◌++◌, drop, map}
use Rattle.rdx_patterns.specs.Inside.Slots.{unnamed_slot}
use Rattle.rdx_lang.specs.PatternView.{slot_of}
use Rattle.rdx_patterns.proofs.crosses.nameless.+unnaming.Given as goal

abbrev pub invariant-add_unnamed-loop-item : goal.invariant-add_unnamed-loop-item
invariant-add_unnamed-loop-item l =
    map slot_of l.out.items ++ map unnamed_slot (map slot_of (drop l.item-index l.items)) ≡ map slot_of l.fn.out.items ++ map unnamed_slot (map slot_of l.items)

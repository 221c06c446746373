use Rattle.std.proofs.Common.{◌≡◌, drop, map}
use Rattle.rdx_lang.specs.Literals as literals
use Rattle.rdx_lang.specs.PatternView.{slot_of, items_of}
use Rattle.rdx_bind.proofs.literals.+mentions.Given as goal

abbrev pub invariant-items_mention-loop-item : goal.invariant-items_mention-loop-item
invariant-items_mention-loop-item l = literals.items_mention l.name (items_of (map slot_of (drop l.item-index l.items))) ≡ literals.items_mention l.name (items_of (map slot_of l.items))

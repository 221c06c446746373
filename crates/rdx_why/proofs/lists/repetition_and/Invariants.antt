use Rattle.std.proofs.Common.{◌≡◌, ◌++◌, ◌∷◌, drop, map}
use Rattle.rdx_lang.specs.PatternView.{pattern_of, slot_of, repeated}
use Rattle.rdx_why.proofs.lists.repetition_and.Given as goal

abbrev pub invariant-loop-item : goal.invariant-loop-item
invariant-loop-item l =
    map slot_of l.items.items ++ map slot_of (drop l.item-index l.others) ≡ repeated (pattern_of l.q) l.fn.length ∷ map slot_of l.others

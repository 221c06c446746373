use Rattle.std.proofs.Common.{◌≡◌, true, drop, map}
use Rattle.rdx_lang.specs.Singles.{are_single}
use Rattle.rdx_lang.specs.PatternView.{slot_of}
use Rattle.rdx_direct.proofs.turns.are_single.Given as goal

abbrev pub invariant-loop-item : goal.invariant-loop-item
invariant-loop-item l = are_single (map slot_of (drop l.item-index l.items)) ≡ true → are_single (map slot_of l.items) ≡ true

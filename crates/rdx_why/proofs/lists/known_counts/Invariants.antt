use Rattle.std.proofs.Common.{◌≡◌, ◌++◌, drop, map}
use Rattle.rdx_lang.specs.PatternView.{slot_of}
use Rattle.rdx_lang.specs.Shown.{binding_of}
use Rattle.rdx_why.specs.Inside.Laying.{count_of}
use Rattle.rdx_why.proofs.lists.known_counts.Given as goal

abbrev pub invariant-loop-item : goal.invariant-loop-item
invariant-loop-item l =
    l.counts.items ++ map (count_of (binding_of l.c)) (map slot_of (drop l.item-index l.items)) ≡ map (count_of (binding_of l.c))
    (map slot_of l.items)

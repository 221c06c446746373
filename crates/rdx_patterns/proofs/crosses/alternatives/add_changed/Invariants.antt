use Rattle.std.proofs.Common.{◌≡◌, ◌++◌, map}
use Rattle.rdx_lang.specs.Crosses as model
use Rattle.rdx_lang.specs.Patterns.{seq}
use Rattle.rdx_patterns.specs.Inside.Slots.{put_at}
use Rattle.rdx_lang.specs.PatternView.{patterns_of, slot_of, items_of}
use Rattle.rdx_patterns.proofs.crosses.alternatives.add_changed.Given as goal

abbrev pub invariant-loop-pat : goal.invariant-loop-pat
invariant-loop-pat l =
    patterns_of l.found.items
    ≡ patterns_of l.fn.found.items ++ map (λ q. seq (put_at l.place q (model.unnamed_items (items_of (map slot_of l.items))))) (patterns_of l.yielded)

use Rattle.std.proofs.Common.{◌≡◌, drop, map}
use Rattle.rdx_lang.specs.PatternView.{slot_of, items_of, language_of}
use Rattle.rdx_facts.specs.Inside.Flags as model
use Rattle.rdx_facts.proofs.patterns.+may.Given as goal

abbrev pub invariant-items_may-loop-item : goal.invariant-items_may-loop-item
invariant-items_may-loop-item l =
    model.items_may (model.may_by (language_of l.language) l.marks) l.may (items_of (map slot_of (drop l.item-index l.items)))
    ≡ model.items_may (model.may_by (language_of l.language) l.marks) model.empty (items_of (map slot_of l.items))

use Rattle.std.proofs.Common.{◌≡◌, ◌++◌, drop, map}
use Rattle.rdx_lang.specs.PatternView.{slot_of, items_of}
use Rattle.rdx_facts.specs.Inside.Literals as model
use Rattle.rdx_facts.proofs.literals.+literals.Given as goal

abbrev pub invariant-add_items_literals-loop-item : goal.invariant-add_items_literals-loop-item
invariant-add_items_literals-loop-item l =
    l.found.items ++ model.items_literals (items_of (map slot_of (drop l.item-index l.items)))
    ≡ l.fn.found.items ++ model.items_literals (items_of (map slot_of l.items))

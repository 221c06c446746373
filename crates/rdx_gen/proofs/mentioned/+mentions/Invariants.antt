use Rattle.std.proofs.Common.{◌≡◌, ◌++◌, drop, map}
use Rattle.rdx_gen.specs.NameRules as model
use Rattle.rdx_gen.specs.Inside.Refs.{refs_in}
use Rattle.rdx_lang.specs.PatternView.{slot_of, items_of}
use Rattle.rdx_gen.proofs.mentioned.+mentions.Given as goal

abbrev pub invariant-add_items_mentioned-loop-item : goal.invariant-add_items_mentioned-loop-item
invariant-add_items_mentioned-loop-item l = refs_in l.out ++ model.items_mentioned (items_of (map slot_of (drop l.item-index l.items)))
    ≡ refs_in l.initial.out ++ model.items_mentioned (items_of (map slot_of l.items))

use Rattle.std.proofs.Common.{◌≡◌, drop, map}
use Rattle.rdx_lang.specs.PatternView.{slot_of, items_of}
use Rattle.rdx_deriv.specs.Inside.Same as model
use Rattle.rdx_deriv.proofs.same.+same.Given as goal

abbrev pub invariant-are_alike-loop-i : goal.invariant-are_alike-loop-i
invariant-are_alike-loop-i l =
    model.same_items (items_of (map slot_of (drop l.i l.a))) (items_of (map slot_of (drop l.i l.b)))
    ≡ model.same_items (items_of (map slot_of l.a)) (items_of (map slot_of l.b))

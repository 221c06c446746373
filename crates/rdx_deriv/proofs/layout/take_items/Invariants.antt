use Rattle.std.proofs.Common.{drop, map}
use Rattle.rdx_lang.specs.PatternView.{slot_of, items_of}
use Rattle.rdx_lang.specs.Shown.{bindings_of}
use Rattle.rdx_deriv.specs.Inside.Layouts.{state_of}
use Rattle.rdx_deriv.proofs.Going.{IsGoing}
use Rattle.rdx_deriv.proofs.layout.take_items.Given as goal

abbrev pub invariant-loop-item : goal.invariant-loop-item
invariant-loop-item l =
    IsGoing l.l (state_of l.fn.rest) (items_of (map slot_of l.items)) l.fn.choice (state_of l.left) (items_of (map slot_of (drop l.item-index l.items))) l.lengths
    (bindings_of l.parts.items)

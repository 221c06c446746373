use Rattle.std.proofs.Common.{map, length}
use Rattle.rdx_term.specs.View.{trees_of}
use Rattle.rdx_lang.specs.Checked.{language_in}
use Rattle.rdx_lang.specs.PatternView.{slot_of, items_of}
use Rattle.rdx_lang.specs.Shown.{binding_of}
use Rattle.rdx_deriv.specs.Inside.Layouts.{focus_of}
use Rattle.rdx_why.proofs.LengthsAhead.{LengthsAhead}
use Rattle.rdx_why.proofs.lists.list_lengths.Given as goal

abbrev pub invariant-loop-item : goal.invariant-loop-item
invariant-loop-item g l =
    LengthsAhead (language_in l.language) l.l (binding_of l.c) (focus_of l.fn.focus) (items_of (map slot_of l.opened)) (trees_of l.terms)
    (focus_of l.split) (map slot_of l.items) l.known (trees_of l.left) l.lengths.items

abbrev pub decreases-loop-item : goal.decreases-loop-item
decreases-loop-item g l = length l.items

use Rattle.std.proofs.Common.{map, length}
use Rattle.rdx_term.specs.View.{trees_of}
use Rattle.rdx_lang.specs.Checked.{language_in}
use Rattle.rdx_lang.specs.PatternView.{slot_of, items_of}
use Rattle.rdx_lang.specs.Shown.{binding_of}
use Rattle.rdx_deriv.specs.DerivationView.{goal_of}
use Rattle.rdx_deriv.specs.Inside.Layouts.{focus_of}
use Rattle.rdx_opened.specs.Seeking.{marks_of}
use Rattle.rdx_why.proofs.LaidGoals.{IsGoing}
use Rattle.rdx_why.proofs.lists.list_goals.Given as goal

abbrev pub invariant-loop-item : goal.invariant-loop-item
invariant-loop-item l =
    IsGoing (language_in l.language) l.l (marks_of l.marks) (binding_of l.c) (focus_of l.fn.focus) (items_of (map slot_of l.items))
    (trees_of l.terms)
    l.fn.lengths (focus_of l.left.focus) (items_of (map slot_of l.others)) (items_of (map slot_of l.others_opened)) (trees_of l.left.terms.now)
    l.left.lengths.now (map goal_of l.goals.items)

abbrev pub decreases-loop-item : goal.decreases-loop-item
decreases-loop-item l = length l.others

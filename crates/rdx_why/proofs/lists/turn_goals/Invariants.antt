use Rattle.std.proofs.Common.{map}
use Rattle.rdx_term.specs.View.{trees_of}
use Rattle.rdx_lang.specs.PatternView.{pattern_of}
use Rattle.rdx_lang.specs.Shown.{binding_of}
use Rattle.rdx_deriv.specs.DerivationView.{goal_of}
use Rattle.rdx_deriv.specs.Inside.Layouts.{focus_of}
use Rattle.rdx_opened.specs.Seeking.{marks_of}
use Rattle.rdx_why.proofs.LaidTurns.{TurnsAhead}
use Rattle.rdx_why.proofs.lists.turn_goals.Given as goal

abbrev pub invariant-loop-turn : goal.invariant-loop-turn
invariant-loop-turn l =
    TurnsAhead (marks_of l.marks) (binding_of l.c) l.l (pattern_of l.q) l.names (focus_of l.fn.focus) (trees_of l.terms) l.count l.turn
    (map goal_of l.goals.items)

use Rattle.rdx_lang.specs.PatternView.{pattern_of}
use Rattle.rdx_lang.specs.Shown.{bindings_of}
use Rattle.rdx_deriv.specs.Inside.Layouts.{state_of}
use Rattle.rdx_deriv.proofs.Turning.{TurnsDone}
use Rattle.rdx_deriv.proofs.layout.take_turns.Given as goal

abbrev pub invariant-loop-more : goal.invariant-loop-more
invariant-loop-more l =
    TurnsDone l.l (pattern_of l.pat) l.fn.count (state_of l.fn.rest) l.more (bindings_of l.bindings.items) (state_of l.left)

abbrev pub decreases-loop-more : goal.decreases-loop-more
decreases-loop-more l = l.more

use Rattle.std.proofs.Common.{[], ◌+◌, ◌≤◌}
use Rattle.rdx_eval.specs.Inside.Frames.{Gives, IsPending, Pending}
use Rattle.rdx_eval.specs.Inside.Scopes.{calls_here, bound_here}
use Rattle.rdx_eval.specs.Inside.Weights.{frames_weight, next_weight}
use Rattle.rdx_eval.proofs.steps.advance.Given as goal

abbrev pub decreases-loop-next : goal.decreases-loop-next
decreases-loop-next g l = frames_weight l.stack.items + next_weight l.next

abbrev pub invariant-loop-next : goal.invariant-loop-next
invariant-loop-next g l = record {
  pending : IsPending (calls_here l.scope) (bound_here l.scope)
      (Pending (calls_here l.scope) (bound_here l.scope) [] l.fn.stack.items (Gives (calls_here l.scope) (bound_here l.scope) l.fn.turns.items l.fn.next))
      l.turns.items l.stack.items l.next;
  less : frames_weight l.stack.items + next_weight l.next ≤ frames_weight l.fn.stack.items + next_weight l.fn.next;
}

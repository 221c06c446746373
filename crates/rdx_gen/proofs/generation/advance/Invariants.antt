use Rattle.std.proofs.Common.{◌≡◌, ◌+◌}
use Rattle.rdx_gen.specs.Inside.Frames.{gives, pending}
use Rattle.rdx_gen.specs.Inside.Weights.{frames_weight, next_weight}
use Rattle.rdx_gen.specs.Views.{state_of}
use Rattle.rdx_gen.proofs.generation.advance.Given as goal

abbrev pub decreases-loop-next : goal.decreases-loop-next
decreases-loop-next l = frames_weight l.setting l.stack.items + next_weight l.setting l.next

abbrev pub invariant-loop-next : goal.invariant-loop-next
invariant-loop-next l = pending l.setting l.stack.items (gives l.setting l.next (state_of l.state)) ≡ gives l.setting l.fn.next (state_of l.initial.state)

use Rattle.std.proofs.Common.{◌≡◌, ◌++◌, map, drop}
use Rattle.rdx_leftrec.specs.Inside.Walks.{step}
use Rattle.rdx_leftrec.proofs.walk.add_steps.Given as goal

abbrev pub invariant-loop-to : goal.invariant-loop-to
invariant-loop-to l = l.pending.items ++ map (step l.from) (drop l.to-index l.targets) ≡ l.initial.pending.items ++ map (step l.from) l.targets

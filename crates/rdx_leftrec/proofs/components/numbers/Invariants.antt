use Rattle.std.proofs.Common.{◌≡◌, ◌++◌, map, drop}
use Rattle.rdx_leftrec.specs.Inside.Walks.{number_of}
use Rattle.rdx_leftrec.proofs.components.numbers.Given as goal

abbrev pub invariant-loop-state : goal.invariant-loop-state
invariant-loop-state l = l.numbers.items ++ map number_of (drop l.state-index l.states) ≡ map number_of l.states

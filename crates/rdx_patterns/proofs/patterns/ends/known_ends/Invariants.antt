use Rattle.std.proofs.Common.{◌≡◌, ◌++◌, drop}
use Rattle.rdx_patterns.specs.Ends as model
use Rattle.rdx_patterns.proofs.patterns.ends.known_ends.Given as goal

abbrev pub invariant-loop-end : goal.invariant-loop-end
invariant-loop-end l = l.known.items ++ model.known_ends l.names (drop l.end-index l.ends) ≡ model.known_ends l.names l.ends

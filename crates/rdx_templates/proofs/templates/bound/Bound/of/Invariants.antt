use Rattle.std.proofs.Common.{◌≡◌, ◌++◌, drop}
use Rattle.rdx_templates.proofs.templates.bound.Bound.of.Given as goal

abbrev pub invariant-loop-name : goal.invariant-loop-name
invariant-loop-name l = l.bound ++ drop l.name-index l.pairs ≡ l.pairs

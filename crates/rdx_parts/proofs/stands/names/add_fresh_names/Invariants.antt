use Rattle.std.proofs.Common.{◌≡◌, ◌++◌, drop}
use Rattle.rdx_parts.specs.ByNames.{fresh_names}
use Rattle.rdx_parts.proofs.stands.names.add_fresh_names.Given as goal

abbrev pub invariant-loop-d : goal.invariant-loop-d
invariant-loop-d l = l.out ++ fresh_names (drop l.d-index l.made) ≡ l.fn.out ++ fresh_names l.made

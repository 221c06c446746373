use Rattle.std.proofs.Common.{◌≡◌, drop}
use Rattle.rdx_lang.specs.Rules as rules
use Rattle.rdx_direct.proofs.atoms.is_one_of.Given as goal

abbrev pub invariant-loop-other : goal.invariant-loop-other
invariant-loop-other l = rules.is_one_of (drop l.other-index l.names) l.name ≡ rules.is_one_of l.names l.name

use Rattle.std.proofs.Common.{take}
use Rattle.rdx_patterns.specs.Model.Finding.{FindsAll}
use Rattle.rdx_patterns.proofs.patterns.names.Names.new.Given as goal

abbrev pub invariant-loop-name : goal.invariant-loop-name
invariant-loop-name l = FindsAll (take l.name-index l.name-items) l.by_text

use Rattle.std.proofs.Common.{◌≡◌, drop}
use Rattle.rdx_patterns.specs.Parts.{are_symbols}
use Rattle.rdx_patterns.proofs.shape.data.are_symbols.Given as goal

abbrev pub invariant-loop-d : goal.invariant-loop-d
invariant-loop-d l = are_symbols (drop l.d-index l.items) ≡ are_symbols l.items

use Rattle.std.proofs.Common.{◌≡◌, drop}
use Rattle.std.specs.List.{list_all}
use Rattle.rdx_patterns.specs.Parts.{is_symbol}
use Rattle.rdx_parts.proofs.extras.are_symbols.Given as goal

abbrev pub invariant-loop-d : goal.invariant-loop-d
invariant-loop-d l = list_all is_symbol (drop l.d-index l.parts) ≡ list_all is_symbol l.parts

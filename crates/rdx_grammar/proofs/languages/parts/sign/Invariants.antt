use Rattle.std.proofs.Common.{◌≡◌, drop, take}
use Rattle.rdx_grammar.specs.Definitions.{at_sign}
use Rattle.rdx_grammar.proofs.Signs.{behind}
use Rattle.rdx_grammar.proofs.languages.parts.sign.Given as goal

abbrev pub invariant-loop-i : goal.invariant-loop-i
invariant-loop-i l = behind (take l.i l.items) (at_sign (drop l.i l.items)) ≡ at_sign l.items

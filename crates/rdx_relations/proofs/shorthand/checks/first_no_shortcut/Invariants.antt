use Rattle.std.proofs.Common.{◌≡◌, drop}
use Rattle.rdx_patterns.specs.Refusal.{first}
use Rattle.rdx_relations.specs.Expansion.{no_shortcuts}
use Rattle.rdx_relations.proofs.shorthand.checks.first_no_shortcut.Given as goal

abbrev pub invariant-loop-d : goal.invariant-loop-d
invariant-loop-d l = first (no_shortcuts l.parts) ≡ first (no_shortcuts (drop l.d-index l.parts))

use Rattle.std.proofs.Common.{◌≡◌, drop}
use Rattle.rdx_patterns.specs.Refusal.{first}
use Rattle.rdx_relations.specs.Expansion.{no_cases}
use Rattle.rdx_relations.proofs.shorthand.checks.first_no_case.Given as goal

abbrev pub invariant-loop-d : goal.invariant-loop-d
invariant-loop-d l = first (no_cases l.cases) ≡ first (no_cases (drop l.d-index l.cases))

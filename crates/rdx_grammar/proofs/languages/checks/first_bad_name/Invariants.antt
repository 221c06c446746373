use Rattle.std.proofs.Common.{◌≡◌, drop}
use Rattle.rdx_grammar.specs.Checks.{bad_names}
use Rattle.rdx_patterns.specs.Refusal.{first}
use Rattle.rdx_grammar.specs.Inside.StandView.{stands_of}
use Rattle.rdx_grammar.proofs.languages.checks.first_bad_name.Given as goal

abbrev pub invariant-loop-s : goal.invariant-loop-s
invariant-loop-s l = first (bad_names (stands_of l.found)) ≡ first (bad_names (stands_of (drop l.s-index l.found)))

use Rattle.std.proofs.Common.{◌≡◌, drop}
use Rattle.std.specs.Prelude.{option_map}
use Rattle.rdx_grammar.specs.Inside.BaseView.{base_in}
use Rattle.rdx_grammar.specs.Checks.{bad_patterns}
use Rattle.rdx_patterns.specs.Refusal.{first}
use Rattle.rdx_grammar.specs.Inside.StandView.{stands_of}
use Rattle.rdx_grammar.proofs.languages.checks.first_bad_pattern.Given as goal

abbrev pub invariant-loop-s : goal.invariant-loop-s
invariant-loop-s l = first (bad_patterns (base_in (option_map (λ c. c.now) l.base)) l.names (stands_of l.found)) ≡ first (bad_patterns (base_in (option_map (λ c. c.now) l.base)) l.names (stands_of (drop l.s-index l.found)))

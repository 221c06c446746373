use Rattle.std.proofs.Common.{◌≡◌, drop}
use Rattle.rdx_grammar.specs.Checks.{all_escapes}
use Rattle.rdx_patterns.specs.Refusal.{first}
use Rattle.rdx_grammar.specs.Inside.StandView.{stands_of}
use Rattle.rdx_grammar.proofs.languages.checks.first_escape_in_form.Given as goal

abbrev pub invariant-loop-s : goal.invariant-loop-s
invariant-loop-s l = first (all_escapes (stands_of l.found)) ≡ first (all_escapes (stands_of (drop l.s-index l.found)))

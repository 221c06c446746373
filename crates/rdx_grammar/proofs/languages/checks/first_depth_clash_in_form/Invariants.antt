use Rattle.std.proofs.Common.{◌≡◌, drop}
use Rattle.rdx_grammar.specs.Checks.{all_depth_clashes}
use Rattle.rdx_patterns.specs.Refusal.{first}
use Rattle.rdx_grammar.specs.Inside.StandView.{stands_of}
use Rattle.rdx_grammar.proofs.languages.checks.first_depth_clash_in_form.Given as goal

abbrev pub invariant-loop-s : goal.invariant-loop-s
invariant-loop-s l = first (all_depth_clashes l.names (stands_of l.found)) ≡ first (all_depth_clashes l.names (stands_of (drop l.s-index l.found)))

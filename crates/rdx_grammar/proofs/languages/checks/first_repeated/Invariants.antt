use Rattle.std.proofs.Common.{◌≡◌, drop, []}
use Rattle.rdx_grammar.specs.Checks.{repeats}
use Rattle.rdx_patterns.specs.Refusal.{first}
use Rattle.rdx_patterns.specs.Inside.Repeats.{texts_in}
use Rattle.rdx_grammar.specs.Inside.StandView.{stands_of}
use Rattle.rdx_grammar.proofs.languages.checks.first_repeated.Given as goal

abbrev pub invariant-loop-s : goal.invariant-loop-s
invariant-loop-s l = first (repeats [] (stands_of l.found)) ≡ first (repeats (texts_in l.seen) (stands_of (drop l.s-index l.found)))

use Rattle.std.proofs.Common.{◌≡◌, drop}
use Rattle.rdx_patterns.specs.OccurrenceView.{occurrences_of}
use Rattle.rdx_patterns.specs.PatternChecks.{bad_binders}
use Rattle.rdx_patterns.specs.Refusal.{first}
use Rattle.rdx_patterns.proofs.patterns.checks.first_bad_binder.Given as goal

abbrev pub invariant-loop-o : goal.invariant-loop-o
invariant-loop-o l = first (bad_binders (occurrences_of l.found)) ≡ first (bad_binders (occurrences_of (drop l.o-index l.found)))

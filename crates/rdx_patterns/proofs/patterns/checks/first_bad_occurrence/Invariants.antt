use Rattle.std.proofs.Common.{◌≡◌, drop}
use Rattle.rdx_patterns.specs.OccurrenceView.{occurrences_of}
use Rattle.rdx_patterns.specs.PatternChecks.{bad_occurrences}
use Rattle.rdx_patterns.specs.Refusal.{first}
use Rattle.rdx_patterns.proofs.patterns.checks.first_bad_occurrence.Given as goal

abbrev pub invariant-loop-o : goal.invariant-loop-o
invariant-loop-o l = first (bad_occurrences l.names (occurrences_of l.found)) ≡ first (bad_occurrences l.names (occurrences_of (drop l.o-index l.found)))

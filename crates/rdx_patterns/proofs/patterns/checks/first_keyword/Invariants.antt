use Rattle.std.proofs.Common.{◌≡◌, drop}
use Rattle.rdx_patterns.specs.OccurrenceView.{occurrences_of}
use Rattle.rdx_patterns.specs.PatternChecks.{keyword_faults}
use Rattle.rdx_patterns.specs.Refusal.{first}
use Rattle.rdx_patterns.proofs.patterns.checks.first_keyword.Given as goal

abbrev pub invariant-loop-o : goal.invariant-loop-o
invariant-loop-o l = first (keyword_faults (occurrences_of l.found)) ≡ first (keyword_faults (occurrences_of (drop l.o-index l.found)))

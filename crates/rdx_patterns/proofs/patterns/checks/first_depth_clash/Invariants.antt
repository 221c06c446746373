use Rattle.std.proofs.Common.{drop}
use Rattle.rdx_lang.specs.Met.{met}
use Rattle.rdx_patterns.specs.OccurrenceView.{occurrences_of}
use Rattle.rdx_patterns.specs.PatternChecks.{all_bound, depth_clashes}
use Rattle.rdx_patterns.specs.Refusal.{first}
use Rattle.rdx_patterns.proofs.Clashes.{IsFirstClash}
use Rattle.rdx_patterns.proofs.patterns.checks.first_depth_clash.Given as goal

abbrev pub invariant-loop-o : goal.invariant-loop-o
invariant-loop-o l =
    IsFirstClash (first (depth_clashes l.names l.position (occurrences_of l.found))) (met l.depths)
    (all_bound l.names l.position (occurrences_of (drop l.o-index l.found)))

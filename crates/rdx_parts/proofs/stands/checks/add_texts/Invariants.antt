use Rattle.std.proofs.Common.{◌++◌, drop}
use Rattle.rdx_patterns.specs.Inside.Repeats.{texts_in, HaveSame}
use Rattle.rdx_patterns.specs.OccurrenceView.{occurrences_of}
use Rattle.rdx_patterns.specs.PatternChecks.{all_bound}
use Rattle.rdx_patterns.specs.declared.patterns.position.Position.TheVariants.{Query}
use Rattle.rdx_parts.specs.NamesAgain.{texts_bound}
use Rattle.rdx_parts.proofs.stands.checks.add_texts.Given as goal

abbrev pub invariant-loop-o : goal.invariant-loop-o
invariant-loop-o l =
    HaveSame (texts_in l.bound ++ texts_bound (all_bound l.names Query (occurrences_of (drop l.o-index l.found))))
    (texts_in l.fn.bound ++ texts_bound (all_bound l.names Query (occurrences_of l.found)))

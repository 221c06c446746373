use Rattle.std.proofs.Common.{◌≡◌, ◌++◌, drop}
use Rattle.rdx_patterns.specs.OccurrenceView.{occurrences_of}
use Rattle.rdx_patterns.specs.PatternChecks.{all_bound}
use Rattle.rdx_patterns.specs.declared.patterns.position.Position.TheVariants.{Query}
use Rattle.rdx_parts.specs.Stands.{names_bound}
use Rattle.rdx_forms.proofs.generate_forms.add_bound.Given as goal

abbrev pub invariant-loop-o : goal.invariant-loop-o
invariant-loop-o l = l.out.items ++ names_bound (all_bound l.names Query (occurrences_of (drop l.o-index l.found))) ≡ l.fn.out.items ++ names_bound (all_bound l.names Query (occurrences_of l.found))

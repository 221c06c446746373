use Rattle.std.proofs.Common.{◌≡◌, drop}
use Rattle.std.specs.Prelude.{option_map}
use Rattle.rdx_patterns.specs.OccurrenceView.{occurrences_of}
use Rattle.rdx_patterns.specs.PatternChecks.{bad_binders}
use Rattle.rdx_templates.specs.Earliest.{earliest, lesser, start}
use Rattle.rdx_parts.proofs.stands.patterns.earliest_bad_binder.Given as goal

abbrev pub invariant-loop-o : goal.invariant-loop-o
invariant-loop-o l =
    lesser start (option_map (λ d. d.now) l.place) (earliest start (bad_binders (occurrences_of (drop l.o-index l.found))))
    ≡ earliest start (bad_binders (occurrences_of l.found))

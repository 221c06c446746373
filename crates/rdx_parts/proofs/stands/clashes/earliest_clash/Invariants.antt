use Rattle.std.proofs.Common.{◌≡◌, ◌++◌, drop}
use Rattle.std.specs.Prelude.{option_map}
use Rattle.rdx_patterns.specs.OccurrenceView.{occurrences_of}
use Rattle.rdx_templates.specs.Earliest.{start, lesser, earliest}
use Rattle.rdx_parts.specs.StandChecks.{other_depths}
use Rattle.rdx_parts.specs.Stands.{bound_among}
use Rattle.rdx_parts.proofs.stands.clashes.earliest_clash.Given as goal

abbrev pub invariant-loop-o : goal.invariant-loop-o
invariant-loop-o l =
    lesser start (option_map (λ d. d.now) l.clash) (earliest start (other_depths ((l.bound ++ l.behind) ++ l.here) (bound_among l.names (occurrences_of (drop l.o-index l.found)))))
    ≡ earliest start (other_depths (l.bound ++ l.behind) (bound_among l.names (occurrences_of l.found)))

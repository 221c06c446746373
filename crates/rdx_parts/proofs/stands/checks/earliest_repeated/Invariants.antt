use Rattle.std.proofs.Common.{◌≡◌, drop, []}
use Rattle.std.specs.Prelude.{option_map}
use Rattle.rdx_patterns.specs.Inside.Repeats.{texts_in}
use Rattle.rdx_templates.specs.Earliest.{start, lesser, earliest}
use Rattle.rdx_parts.specs.PartViews.{stands_of}
use Rattle.rdx_parts.specs.NamesAgain.{names_again}
use Rattle.rdx_parts.proofs.stands.checks.earliest_repeated.Given as goal

abbrev pub invariant-loop-s : goal.invariant-loop-s
invariant-loop-s l =
    lesser start (option_map (λ d. d.now) l.place) (earliest start (names_again l.names (texts_in l.seen) (texts_in l.bound) (stands_of (drop l.s-index l.found))))
    ≡ earliest start (names_again l.names [] [] (stands_of l.found))

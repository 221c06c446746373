use Rattle.std.proofs.Common.{◌≡◌, drop}
use Rattle.std.specs.Prelude.{option_map}
use Rattle.rdx_sexp.specs.Sexp.{sexps}
use Rattle.rdx_patterns.specs.Occurrences.{keys_in}
use Rattle.rdx_patterns.specs.PatternChecks.{keyword_faults}
use Rattle.rdx_templates.specs.Earliest.{earliest, lesser, start}
use Rattle.rdx_templates.proofs.templates.shapes.+key_in.Given as goal

abbrev pub invariant-loop-item : goal.invariant-loop-item
invariant-loop-item l =
    lesser start (option_map (λ d. d.now) l.found) (earliest start (keyword_faults (keys_in (sexps (drop l.item-index l.item-items)))))
    ≡ earliest start (keyword_faults (keys_in (sexps l.item-items)))

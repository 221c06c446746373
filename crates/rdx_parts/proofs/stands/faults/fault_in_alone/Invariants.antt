use Rattle.std.proofs.Common.{◌≡◌, drop, map}
use Rattle.std.specs.Prelude.{option_map}
use Rattle.rdx_templates.specs.Earliest.{start, lesser, earliest}
use Rattle.rdx_parts.specs.ByNames.{alone_faults}
use Rattle.rdx_parts.proofs.stands.faults.fault_in_alone.Given as goal

abbrev pub invariant-loop-pattern : goal.invariant-loop-pattern
invariant-loop-pattern l =
    lesser start (option_map (λ d. d.now) l.fault) (earliest start (alone_faults l.check l.names (map (λ d. d.now) (drop l.pattern-index l.alone))))
    ≡ earliest start (alone_faults l.check l.names (map (λ d. d.now) l.alone))

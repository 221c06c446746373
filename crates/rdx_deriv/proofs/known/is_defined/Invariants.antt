use Rattle.std.proofs.Common.{◌≡◌, drop, map}
use Rattle.rdx_lang.specs.PatternView.{definition_of}
use Rattle.rdx_lang.specs.References as references
use Rattle.rdx_deriv.proofs.known.is_defined.Given as goal

abbrev pub invariant-loop-defined : goal.invariant-loop-defined
invariant-loop-defined l =
    references.is_among l.name (map (λ d. d.0) (map definition_of (drop l.defined-index l.language.nts.items)))
    ≡ references.is_among l.name (map (λ d. d.0) (map definition_of l.language.nts.items))

use Rattle.std.proofs.Common.{◌≡◌, drop, map}
use Rattle.rdx_lang.specs.PatternView.{definition_of}
use Rattle.rdx_lang.specs.References as model
use Rattle.rdx_cli.proofs.terms.is_among.Given as goal

abbrev pub invariant-loop-defined : goal.invariant-loop-defined
invariant-loop-defined l = model.is_among l.name (map (λ d. d.0) (map definition_of (drop l.defined-index l.definitions))) ≡ model.is_among l.name (map (λ d. d.0) (map definition_of l.definitions))

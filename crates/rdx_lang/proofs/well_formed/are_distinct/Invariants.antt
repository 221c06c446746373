use Rattle.std.proofs.Common.{◌≡◌, drop, map}
use Rattle.rdx_lang.specs.PatternView.{definition_of}
use Rattle.rdx_lang.specs.References as model
use Rattle.rdx_lang.proofs.well_formed.are_distinct.Given as goal

abbrev pub invariant-loop-i : goal.invariant-loop-i
invariant-loop-i l = model.are_distinct (map (λ d. d.0) (map definition_of (drop l.i l.definitions))) ≡ model.are_distinct (map (λ d. d.0) (map definition_of l.definitions))

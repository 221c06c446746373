use Rattle.std.proofs.Common.{◌≡◌, ◌++◌, drop, map}
use Rattle.std.specs.Prelude.{flat_map}
use Rattle.rdx_lang.specs.Crosses as model
use Rattle.rdx_lang.specs.PatternView.{definition_of, language_of}
use Rattle.rdx_patterns.proofs.crosses.ways.language_ways.Given as goal

abbrev pub invariant-loop-alternatives : goal.invariant-loop-alternatives
invariant-loop-alternatives l =
    l.ways.items ++ flat_map (λ d. flat_map model.ways d.1) (map definition_of (drop l.alternatives-index l.alternatives-items))
    ≡ model.language_ways (language_of l.language)

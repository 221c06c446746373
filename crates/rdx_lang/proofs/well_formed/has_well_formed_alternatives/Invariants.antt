use Rattle.std.proofs.Common.{◌≡◌, drop, map}
use Rattle.rdx_lang.specs.PatternView.{definition_of, language_of}
use Rattle.rdx_lang.specs.WellFormed as model
use Rattle.rdx_lang.proofs.well_formed.has_well_formed_alternatives.Given as goal

abbrev pub invariant-loop-alternatives : goal.invariant-loop-alternatives
invariant-loop-alternatives l =
    model.all_alternatives (model.is_well_formed_in (language_of l.language)) (map definition_of (drop l.alternatives-index l.alternatives-items))
    ≡ model.has_well_formed_alternatives (language_of l.language)

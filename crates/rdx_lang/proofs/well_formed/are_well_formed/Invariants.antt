use Rattle.std.proofs.Common.{◌≡◌, drop}
use Rattle.rdx_lang.specs.PatternView.{language_of, patterns_of}
use Rattle.rdx_lang.specs.WellFormed as model
use Rattle.rdx_lang.proofs.well_formed.are_well_formed.Given as goal

abbrev pub invariant-loop-pat : goal.invariant-loop-pat
invariant-loop-pat l =
    model.all_patterns (model.is_well_formed_in (language_of l.language)) (patterns_of (drop l.pat-index l.pats))
    ≡ model.all_patterns (model.is_well_formed_in (language_of l.language)) (patterns_of l.pats)

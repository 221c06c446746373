use Rattle.std.proofs.Common.{◌≡◌, ◌++◌, drop, map}
use Rattle.rdx_lang.specs.Crosses as model
use Rattle.rdx_lang.specs.PatternView.{patterns_of, definition_of}
use Rattle.rdx_patterns.specs.Inside.CrossesTo.{language_among}
use Rattle.rdx_patterns.proofs.crosses.adding.cross_alternatives.Given as goal

abbrev pub invariant-loop-pat : goal.invariant-loop-pat
invariant-loop-pat l =
    patterns_of l.found.items ++ model.crossed_alternatives l.to (patterns_of (drop l.pat-index l.pat-items))
    ≡ model.cross_alternatives (language_among (map definition_of l.definitions)) l.from l.to

use Rattle.std.proofs.Common.{drop, map}
use Rattle.rdx_lang.specs.PatternView.{definition_of, language_of}
use Rattle.rdx_patterns.specs.Inside.Repeats.{texts_in}
use Rattle.rdx_patterns.proofs.SeveralWays.{HasPassed}
use Rattle.rdx_patterns.proofs.crosses.completion.new_crosses_of.Given as goal

abbrev pub invariant-loop-from : goal.invariant-loop-from
invariant-loop-from l =
    HasPassed (language_of l.language) (map definition_of l.added.items) (texts_in l.seen) (drop l.from-index l.ways) l.ways

use Rattle.std.proofs.Common.{◌≡◌, ◌++◌, [], drop, map}
use Rattle.rdx_lang.specs.PatternView.{definition_of}
use Rattle.rdx_patterns.specs.Inside.CrossesTo.{crosses_after}
use Rattle.rdx_patterns.specs.Inside.Repeats.{texts_in}
use Rattle.rdx_patterns.proofs.crosses.adding.new_crosses.Given as goal

abbrev pub invariant-loop-to : goal.invariant-loop-to
invariant-loop-to l =
    map definition_of l.added.items ++ crosses_after (map definition_of l.language.nts.items) (texts_in l.seen) (drop l.to-index l.ends)
    ≡ crosses_after (map definition_of l.language.nts.items) [] l.ends

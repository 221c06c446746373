use Rattle.std.proofs.Common.{◌≡◌, ◌++◌, drop}
use Rattle.rdx_lang.specs.PatternView.{patterns_of}
use Rattle.rdx_facts.specs.Inside.Literals.{all_literals}
use Rattle.rdx_facts.proofs.literals.add_all_literals.Given as goal

abbrev pub invariant-loop-pat : goal.invariant-loop-pat
invariant-loop-pat l =
    l.found.items ++ all_literals (patterns_of (drop l.pat-index l.pats)) ≡ l.fn.found.items ++ all_literals (patterns_of l.pats)

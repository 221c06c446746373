use Rattle.std.proofs.Common.{◌≡◌, ◌++◌, drop, map}
use Rattle.rdx_lang.specs.PatternView.{definition_of, language_of}
use Rattle.rdx_facts.specs.Inside.Literals.{definitions_literals}
use Rattle.rdx_facts.proofs.literals.language_literals.Given as goal

abbrev pub invariant-loop-alternatives : goal.invariant-loop-alternatives
invariant-loop-alternatives l =
    l.found.items ++ definitions_literals (map definition_of (drop l.alternatives-index l.alternatives-items))
    ≡ definitions_literals (language_of l.language).nonterminals

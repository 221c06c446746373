use Rattle.std.proofs.Common.{◌≡◌, ◌++◌, drop, map}
use Rattle.rdx_lang.specs.PatternView.{definition_of, language_of}
use Rattle.rdx_lang.specs.WellFormed.{defined}
use Rattle.rdx_leftrec.specs.Inside.EmptyRules.{rules_of, definitions_rules, language_rules}
use Rattle.rdx_leftrec.proofs.empty.all_rules.Given as goal

abbrev pub invariant-loop-whole : goal.invariant-loop-whole
invariant-loop-whole l =
    rules_of l.rules.items ++ definitions_rules (defined (language_of l.nonterminals.language.now)) l.whole (map definition_of (drop l.whole l.nonterminals.language.now.nts.items))
    ≡ language_rules (language_of l.nonterminals.language.now)

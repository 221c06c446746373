use Rattle.std.proofs.Common.{◌≡◌, ◌++◌, drop}
use Rattle.rdx_lang.specs.PatternView.{patterns_of, language_of}
use Rattle.rdx_lang.specs.WellFormed.{defined}
use Rattle.rdx_leftrec.specs.Inside.EmptyRules.{rules_of, alternatives_rules}
use Rattle.rdx_leftrec.proofs.empty.add_rules.Given as goal

abbrev pub invariant-loop-pat : goal.invariant-loop-pat
invariant-loop-pat l =
    rules_of l.rules.items ++ alternatives_rules (defined (language_of l.nonterminals.language.now)) l.whole (patterns_of (drop l.pat-index l.alternatives))
    ≡ rules_of l.initial.rules.items ++ alternatives_rules (defined (language_of l.nonterminals.language.now)) l.whole (patterns_of l.alternatives)

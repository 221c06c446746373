use Rattle.std.proofs.Common.{◌≡◌, ◌++◌, option_map, drop}
use Rattle.rdx_lang.specs.PatternView.{patterns_of}
use Rattle.rdx_grammar.specs.Inside.BaseView.{base_in}
use Rattle.rdx_grammar.specs.Languages as languages
use Rattle.rdx_grammar.proofs.languages.definitions.read_alternatives.Given as goal

abbrev pub invariant-loop-alternative : goal.invariant-loop-alternative
invariant-loop-alternative l =
    patterns_of l.pats.items ++ languages.alternatives (base_in (option_map (λ c. c.now) l.base)) l.names l.nonterminal (drop l.alternative-index l.alternatives)
    ≡ languages.alternatives (base_in (option_map (λ c. c.now) l.base)) l.names l.nonterminal l.alternatives

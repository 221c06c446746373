use Rattle.std.proofs.Common.{◌≡◌, ◌++◌, option_map, drop, map}
use Rattle.rdx_lang.specs.PatternView.{definition_of}
use Rattle.rdx_grammar.specs.Inside.BaseView.{base_in}
use Rattle.rdx_grammar.specs.Languages as languages
use Rattle.rdx_patterns.specs.AreNames.{AreNames}
use Rattle.rdx_grammar.specs.Nonterminals.{names_in}
use Rattle.rdx_grammar.proofs.languages.definitions.read_definitions.Given as goal

abbrev pub invariant-loop-d : goal.invariant-loop-d
invariant-loop-d l = record {
  named : AreNames (names_in (drop l.d-index l.definitions));
  reads : map definition_of l.read.items ++ languages.definitions_of (base_in (option_map (λ c. c.now) l.base)) l.names (drop l.d-index l.definitions)
      ≡ languages.definitions_of (base_in (option_map (λ c. c.now) l.base)) l.names l.definitions;
}

use Rattle.std.proofs.Common.{◌≡◌, ◌++◌, option_map, drop, map}
use Rattle.rdx_lang.specs.PatternView.{definition_of}
use Rattle.rdx_lang.specs.declared.pattern.Ref.TheVariants.{Nt}
use Rattle.rdx_grammar.specs.Inside.BaseView.{base_in}
use Rattle.rdx_grammar.specs.Languages as languages
use Rattle.rdx_patterns.specs.Parts.{text_of}
use Rattle.rdx_patterns.specs.AreNames.{AreNames}
use Rattle.rdx_grammar.proofs.languages.definitions.add_definition.Given as goal

abbrev pub invariant-loop-symbol : goal.invariant-loop-symbol
invariant-loop-symbol l = record {
  named : AreNames (map text_of (drop l.symbol-index l.definition.names.now));
  reads : map definition_of l.out.items ++ map (λ e. (Nt (text_of e), languages.alternatives (base_in (option_map (λ c. c.now) l.base)) l.names (Nt (text_of e)) l.definition.alternatives.now)) (drop l.symbol-index l.definition.names.now)
      ≡ map definition_of l.fn.out.items ++ map (λ e. (Nt (text_of e), languages.alternatives (base_in (option_map (λ c. c.now) l.base)) l.names (Nt (text_of e)) l.definition.alternatives.now)) l.definition.names.now;
}

use Rattle.std.proofs.Common.{◌≡◌, ◌++◌, drop, map}
use Rattle.rdx_patterns.specs.Parts.{text_of}
use Rattle.rdx_patterns.specs.AreNames.{AreNames}
use Rattle.rdx_grammar.proofs.languages.nonterminals.add_symbols.Given as goal

abbrev pub invariant-loop-symbol : goal.invariant-loop-symbol
invariant-loop-symbol l = record {
  named : AreNames (map text_of (drop l.symbol-index l.symbols));
  reads : l.out.items ++ map text_of (drop l.symbol-index l.symbols) ≡ l.fn.out.items ++ map text_of l.symbols;
}

use Rattle.std.proofs.Common.{◌≡◌, ◌++◌, drop}
use Rattle.rdx_grammar.specs.Nonterminals.{names_in}
use Rattle.rdx_patterns.specs.AreNames.{AreNames}
use Rattle.rdx_grammar.proofs.languages.nonterminals.add_defined.Given as goal

abbrev pub invariant-loop-d : goal.invariant-loop-d
invariant-loop-d l = record {
  named : AreNames (names_in (drop l.d-index l.definitions));
  reads : l.out.items ++ names_in (drop l.d-index l.definitions) ≡ l.fn.out.items ++ names_in l.definitions;
}

use Rattle.std.proofs.Common.{◌≡◌, ◌++◌, drop, map}
use Rattle.rdx_grammar.specs.Inside.StandView.{stands_of}
use Rattle.rdx_grammar.specs.Stands.{nonterminal}
use Rattle.rdx_grammar.proofs.languages.stands.add_nonterminals.Given as goal

abbrev pub invariant-loop-name : goal.invariant-loop-name
invariant-loop-name l = stands_of l.out.items ++ map (λ e. nonterminal e) (drop l.name-index l.names) ≡ stands_of l.fn.out.items ++ map (λ e. nonterminal e) l.names

use Rattle.std.proofs.Common.{◌≡◌, ◌++◌, drop, map}
use Rattle.rdx_lang.specs.Crosses.{plain_definitions}
use Rattle.rdx_lang.specs.PatternView.{definition_of}
use Rattle.rdx_grammar.specs.Extension as model
use Rattle.rdx_grammar.proofs.languages.extension.add_redefined.Given as goal

abbrev pub invariant-loop-nonterminal : goal.invariant-loop-nonterminal
invariant-loop-nonterminal l =
    map definition_of l.out.items ++ map (model.redefined (map definition_of l.new)) (plain_definitions (map definition_of (drop l.nonterminal-index l.base)))
    ≡ map definition_of l.fn.out.items ++ map (model.redefined (map definition_of l.new)) (plain_definitions (map definition_of l.base))

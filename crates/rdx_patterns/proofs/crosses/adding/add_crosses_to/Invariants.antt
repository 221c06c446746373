use Rattle.std.proofs.Common.{◌≡◌, ◌++◌, drop, map}
use Rattle.std.specs.Prelude.{flat_map}
use Rattle.rdx_lang.specs.Crosses as model
use Rattle.rdx_lang.specs.PatternView.{definition_of}
use Rattle.rdx_patterns.specs.Found.{heads}
use Rattle.rdx_patterns.specs.Inside.CrossesTo.{language_among}
use Rattle.rdx_patterns.proofs.crosses.adding.add_crosses_to.Given as goal

abbrev pub invariant-loop-nonterminal : goal.invariant-loop-nonterminal
invariant-loop-nonterminal l =
    map definition_of l.added.items
    ++ flat_map (model.new_cross (language_among (map definition_of l.definitions)) l.to)
    (flat_map model.plain_name (heads (map definition_of (drop l.nonterminal-index l.nonterminal-items))))
    ≡ map definition_of l.fn.added.items ++ model.new_crosses (language_among (map definition_of l.definitions)) l.to

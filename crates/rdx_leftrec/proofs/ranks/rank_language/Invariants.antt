use Rattle.std.proofs.Common.{◌≡◌, ◌++◌, drop, map}
use Rattle.rdx_lang.specs.PatternView.{definition_of, language_of}
use Rattle.rdx_leftrec.specs.Inside.EmptyRules.{empty_by}
use Rattle.rdx_leftrec.specs.Inside.Numbers.{number_in}
use Rattle.rdx_leftrec.specs.Inside.Preorder.{definitions_ranks}
use Rattle.rdx_leftrec.proofs.ranks.rank_language.Given as goal

abbrev pub invariant-loop-alternatives : goal.invariant-loop-alternatives
invariant-loop-alternatives l =
    l.ranks.items ++ definitions_ranks (empty_by (language_of l.nonterminals.language.now) l.empty) (number_in (language_of l.nonterminals.language.now) l.numbers) (map definition_of (drop l.alternatives-index l.alternatives-items))
    ≡ definitions_ranks (empty_by (language_of l.nonterminals.language.now) l.empty) (number_in (language_of l.nonterminals.language.now) l.numbers) (map definition_of l.nonterminals.language.now.nts.items)

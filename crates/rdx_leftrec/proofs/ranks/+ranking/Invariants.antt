use Rattle.std.proofs.Common.{◌≡◌, ◌++◌, drop, map}
use Rattle.rdx_lang.specs.PatternView.{language_of, slot_of, items_of}
use Rattle.rdx_leftrec.specs.Inside.EmptyRules.{empty_by}
use Rattle.rdx_leftrec.specs.Inside.Numbers.{number_in}
use Rattle.rdx_leftrec.specs.Inside.Preorder.{items_ranks}
use Rattle.rdx_leftrec.proofs.ranks.+ranking.Given as goal

abbrev pub invariant-rank_items-loop-item : goal.invariant-rank_items-loop-item
invariant-rank_items-loop-item l =
    l.ranks.items ++ items_ranks (empty_by (language_of l.nonterminals.language.now) l.empty) (number_in (language_of l.nonterminals.language.now) l.numbers) (items_of (map slot_of (drop l.item-index l.items)))
    ≡ l.initial.ranks.items ++ items_ranks (empty_by (language_of l.nonterminals.language.now) l.empty) (number_in (language_of l.nonterminals.language.now) l.numbers) (items_of (map slot_of l.items))

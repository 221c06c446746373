use Rattle.std.proofs.Common.{◌≡◌, ◌++◌, drop}
use Rattle.rdx_lang.specs.PatternView.{language_of, patterns_of}
use Rattle.rdx_leftrec.specs.Inside.EmptyRules.{empty_by}
use Rattle.rdx_leftrec.specs.Inside.Numbers.{number_in}
use Rattle.rdx_leftrec.specs.Inside.Preorder.{patterns_ranks}
use Rattle.rdx_leftrec.proofs.ranks.rank_patterns.Given as goal

abbrev pub invariant-loop-pat : goal.invariant-loop-pat
invariant-loop-pat l =
    l.ranks.items ++ patterns_ranks (empty_by (language_of l.nonterminals.language.now) l.empty) (number_in (language_of l.nonterminals.language.now) l.numbers) (patterns_of (drop l.pat-index l.alternatives))
    ≡ l.initial.ranks.items ++ patterns_ranks (empty_by (language_of l.nonterminals.language.now) l.empty) (number_in (language_of l.nonterminals.language.now) l.numbers) (patterns_of l.alternatives)

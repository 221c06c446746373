-- Which alternatives of a nonterminal are chosen from.
use Rattle.std.specs.Prelude.{ℕ, ◌==◌, List, map, Option, if◌then◌else◌}
use Rattle.rdx_lang.specs.Patterns.{Definition}
use Rattle.rdx_gen.specs.Generation.{choices}
use Rattle.rdx_gen.specs.Heights.{Known, term_height, context_height}
use Rattle.rdx_gen.specs.declared.choices.Choices.{Choices}
use Rattle.rdx_gen.specs.declared.choices.Picks.{Picks}
use Rattle.rdx_gen.specs.declared.height.Height.{Height}

-- places to choose among, at size 0 and above
abbrev pub TwoLists : Type 0
TwoLists = List ℕ × List ℕ

-- those that are listed
abbrev pub picks_in : Picks → TwoLists
picks_in p = (p.at_zero.items, p.above.items)

-- those among patterns of these heights
abbrev pub picks_over : List (Option ℕ) → TwoLists
picks_over hs = (choices 0 hs, choices 1 hs)

-- those for a size
abbrev pub picks_at : TwoLists → ℕ → List ℕ
picks_at p size = if size == 0 then p.0 else p.1

-- those that are listed of a nonterminal, as terms and as contexts
abbrev pub choices_in : Choices → TwoLists × TwoLists
choices_in c = (picks_in c.as_term, picks_in c.as_context)

-- those among the alternatives of a definition
abbrev pub choices_over : Known → Definition → TwoLists × TwoLists
choices_over K d = (picks_over (map (term_height K) d.1), picks_over (map (context_height K) d.1))

-- those of each definition, where these heights are known
abbrev pub choices_with : List Definition → List Height → List (TwoLists × TwoLists)
choices_with ds hs = map (choices_over (record { definitions = ds; heights = hs })) ds

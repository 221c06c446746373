-- The things in forms that values of the code stand for.
use Rattle.std.specs.Prelude.{List, map}
use Rattle.rdx_patterns.specs.OccurrenceView.{occurrences_of}
use Rattle.rdx_grammar.specs.Stands.{Stand, misshaped, defined, nonterminal, alternative, inherited}
use Rattle.rdx_grammar.specs.declared.languages.stands.Stand as code_stand
use Rattle.rdx_grammar.specs.declared.languages.stands.Stand.TheVariants as variants

-- what a stand of the code is
abbrev pub stand_of : code_stand.Stand → Stand
stand_of (variants.Misshaped d) = misshaped d.now
stand_of (variants.Defined d) = defined d.now
stand_of (variants.Nonterminal d) = nonterminal d.now
stand_of (variants.Alternative os) = alternative (occurrences_of os.items)
stand_of (variants.Inherited d names again) = inherited d.now names.now again

-- and what several are, in their order
abbrev pub stands_of : List code_stand.Stand → List Stand
stands_of ss = map stand_of ss

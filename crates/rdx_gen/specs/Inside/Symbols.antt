-- Lists of patterns whose symbols are counted.
use Rattle.std.specs.Prelude.{List, [], ◌∷◌}
use Rattle.rdx_lang.specs.Patterns.{Pattern, Definition}
use Rattle.rdx_gen.specs.Matching.{HasSymbols}

-- all patterns of a list
abbrev pub AllHaveSymbols : List Pattern → Type 0
AllHaveSymbols [] = Unit {0}
AllHaveSymbols (p ∷ ps) = HasSymbols p × AllHaveSymbols ps

-- all alternatives of definitions
abbrev pub DefinitionsHaveSymbols : List Definition → Type 0
DefinitionsHaveSymbols [] = Unit {0}
DefinitionsHaveSymbols (d ∷ ds) = AllHaveSymbols d.1 × DefinitionsHaveSymbols ds

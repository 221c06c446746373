-- The definitions of a language that extends another: those of the base, with the new ones.
use Rattle.std.specs.Prelude.{List, [], ◌∷◌, ◌++◌, map, if◌then◌else◌}
use Rattle.rdx_lang.specs.Lookup.{alternatives_among}
use Rattle.rdx_lang.specs.Patterns.{Definition, Language}
use Rattle.rdx_lang.specs.References.{is_among}
use Rattle.rdx_patterns.specs.Found.{heads}

-- a definition of the base, in its place with the new alternatives where it has some
abbrev pub redefined : List Definition → Definition → Definition
redefined new d = if is_among d.0 (heads new) then (d.0, alternatives_among new d.0) else d

-- those that the base has not
abbrev pub added : List Definition → List Definition → List Definition
added old [] = []
added old (d ∷ ds) = (if is_among d.0 (heads old) then [] else d ∷ []) ++ added old ds

-- the nonterminals of the base come first, in their order, and then the new ones
abbrev pub extended : Language → List Definition → List Definition
extended base new = map (redefined new) base.nonterminals ++ added base.nonterminals new

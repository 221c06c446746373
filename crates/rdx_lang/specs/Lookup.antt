-- The alternatives of a nonterminal, looked up among the definitions.
use Rattle.std.specs.Prelude.{List, [], ◌∷◌, if◌then◌else◌}
use Rattle.rdx_lang.specs.Patterns.{Pattern, Definition, Language}
use Rattle.rdx_lang.specs.References.{is_same}
use Rattle.rdx_lang.specs.declared.pattern.Ref.{Ref}

-- the alternatives of the first definition of x, in their order; none where x isn't defined
abbrev pub alternatives_among : List Definition → Ref → List Pattern
alternatives_among [] x = []
alternatives_among (d ∷ ds) x = if is_same x d.0 then d.1 else alternatives_among ds x

-- the alternatives that a language gives x
abbrev pub alternatives_of : Language → Ref → List Pattern
alternatives_of L x = alternatives_among L.nonterminals x

-- What stands in a form that defines a language, one thing after the other from its beginning to its end.
use Rattle.std.specs.Prelude.{Bool, false, ◌||◌, List, [], ◌∷◌, ◌++◌, Option, Some, None, codes, map, if◌then◌else◌}
use Rattle.rdx_sexp.specs.Sexp.{Sexp}
use Rattle.rdx_grammar.specs.Definitions.{Definition, definition_in}
use Rattle.rdx_grammar.specs.Forms.{GrammarForm}
use Rattle.rdx_patterns.specs.Occurrences.{Occurrence, occurrences}
use Rattle.rdx_patterns.specs.Parts.{is_word}

-- one thing that stands in a form
pub data Stand : Type 0 where
  -- a form or a definition that has not its shape
  misshaped : Sexp → Stand
  -- the name of the language that is defined, and of a nonterminal that is
  defined : Sexp → Stand
  nonterminal : Sexp → Stand
  -- an alternative in which these stand
  alternative : List Occurrence → Stand
  -- `....` as a whole alternative of the nonterminals of these names, and whether it is one for the second time
  inherited : Sexp → List Sexp → Bool → Stand

-- an alternative of these names; `again` says whether a `....` was among those before
abbrev pub alternative_stand : List Sexp → Bool → Sexp → Stand
alternative_stand names again d = if is_word (codes "....") d then inherited d names again else alternative (occurrences 0 d)

-- what stands in the alternatives of these names
abbrev pub alternatives_stand : List Sexp → Bool → List Sexp → List Stand
alternatives_stand names again [] = []
alternatives_stand names again (d ∷ ds) =
    alternative_stand names again d ∷ alternatives_stand names (again || is_word (codes "....") d) ds

-- what stands in one definition: its names, and then its alternatives
abbrev pub definition_stands : Sexp → Option Definition → List Stand
definition_stands d None = misshaped d ∷ []
definition_stands d (Some def) = map (λ e. nonterminal e) def.names ++ alternatives_stand def.names false def.alternatives

-- what stands in definitions
abbrev pub definitions_stand : List Sexp → List Stand
definitions_stand [] = []
definitions_stand (d ∷ ds) = definition_stands d (definition_in d) ++ definitions_stand ds

-- what stands in a form with these parts
abbrev pub form_stands : Sexp → Option GrammarForm → List Stand
form_stands d None = misshaped d ∷ []
form_stands d (Some g) = defined g.name ∷ definitions_stand g.definitions

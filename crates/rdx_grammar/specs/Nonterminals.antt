-- The names of the nonterminals of a form.
use Rattle.std.specs.Prelude.{ℕ, List, [], ◌∷◌, ◌++◌, Option, Some, None, map}
use Rattle.rdx_sexp.specs.Sexp.{Sexp}
use Rattle.rdx_lang.specs.Patterns.{Language}
use Rattle.rdx_grammar.specs.Definitions.{Definition, definition_in}
use Rattle.rdx_patterns.specs.Parts.{text_of}
use Rattle.rdx_patterns.specs.Nonterminals.{names_of}

-- the names of one definition
abbrev pub names_by : Option Definition → List (List ℕ)
names_by None = []
names_by (Some def) = map text_of def.names

-- the names that definitions define, in their order
abbrev pub names_in : List Sexp → List (List ℕ)
names_in [] = []
names_in (d ∷ ds) = names_by (definition_in d) ++ names_in ds

-- all nonterminals of a form over a base
abbrev pub all_names : Language → List Sexp → List (List ℕ)
all_names base ds = names_of base ++ names_in ds

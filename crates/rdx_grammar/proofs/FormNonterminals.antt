-- The nonterminals that stand in a form.
use Rattle.std.proofs.Common.{◌≡◌, ◌++◌, ℕ, Bool, true, false, List, [], ◌∷◌, Option, Some, None, map, refl, ap, ◌∙◌, if◌then◌else◌}
use Rattle.std.specs.Prelude.{◌||◌, codes, flat_map}
use Rattle.std.proofs.lemmas.Grind.{flat_map-append}
use Rattle.rdx_sexp.specs.Sexp.{Sexp}
use Rattle.rdx_grammar.specs.Definitions.{Definition, definition_in}
use Rattle.rdx_grammar.specs.Nonterminals.{names_by, names_in}
use Rattle.rdx_patterns.specs.Occurrences.{occurrences}
use Rattle.rdx_patterns.specs.Parts.{text_of, is_word}
use Rattle.rdx_grammar.specs.Stands.{Stand, misshaped, defined, nonterminal, alternative, inherited, alternatives_stand, definition_stands, definitions_stand}

-- the name of one
abbrev pub nonterminal_name : Stand → List (List ℕ)
nonterminal_name (misshaped d) = []
nonterminal_name (defined d) = []
nonterminal_name (nonterminal d) = text_of d ∷ []
nonterminal_name (alternative os) = []
nonterminal_name (inherited d names again) = []

-- their names, in their order
abbrev pub nonterminals_in : List Stand → List (List ℕ)
nonterminals_in ss = flat_map nonterminal_name ss

-- none in alternatives
none_in_alternatives : (names : List Sexp) (again : Bool) (ds : List Sexp) → nonterminals_in (alternatives_stand names again ds) ≡ []
none_in_alternatives names again [] = refl
none_in_alternatives names again (d ∷ ds) =
    by_word (is_word (codes "....") d) (alternatives_stand names (again || is_word (codes "....") d) ds) ∙ none_in_alternatives names (again || is_word (codes "....") d) ds
  where
    by_word : (b : Bool) (ss : List Stand) → nonterminals_in ((if b then inherited d names again else alternative (occurrences 0 d)) ∷ ss) ≡ nonterminals_in ss
    by_word true ss = refl
    by_word false ss = refl

-- those of several names
of_names : (es : List Sexp) (rest : List Stand) → nonterminals_in rest ≡ [] → nonterminals_in (map (λ e. nonterminal e) es ++ rest) ≡ map text_of es
of_names [] rest e = e
of_names (d ∷ es) rest e = ap (λ (x : List (List ℕ)). text_of d ∷ x) (of_names es rest e)

-- those of a definition
of_definition : (d : Sexp) (o : Option Definition) → nonterminals_in (definition_stands d o) ≡ names_by o
of_definition d None = refl
of_definition d (Some def) = of_names def.names (alternatives_stand def.names false def.alternatives) (none_in_alternatives def.names false def.alternatives)

-- the names that definitions define
pub nonterminals_in-definitions : (ds : List Sexp) → nonterminals_in (definitions_stand ds) ≡ names_in ds
nonterminals_in-definitions [] = refl
nonterminals_in-definitions (d ∷ ds) =
    flat_map-append nonterminal_name (definition_stands d (definition_in d)) (definitions_stand ds)
    ∙ ap (λ (x : List (List ℕ)). x ++ nonterminals_in (definitions_stand ds)) (of_definition d (definition_in d))
    ∙ ap (λ (x : List (List ℕ)). names_by (definition_in d) ++ x) (nonterminals_in-definitions ds)

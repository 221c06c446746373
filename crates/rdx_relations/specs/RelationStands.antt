-- What stands in a form of a relation.
use Rattle.std.specs.Prelude.{ℕ, false, List, [], ◌∷◌, ◌++◌, Option, Some, None, if◌then◌else◌}
use Rattle.rdx_sexp.specs.Sexp.{Sexp}
use Rattle.rdx_patterns.specs.Kinds.{is_among}
use Rattle.rdx_patterns.specs.Occurrences.{occurrences}
use Rattle.rdx_patterns.specs.Parts.{text_of}
use Rattle.rdx_patterns.specs.PatternChecks as patterns
use Rattle.rdx_relations.specs.Expansion.{expanded_form}
use Rattle.rdx_parts.specs.ExtraForms.{of_case}
use Rattle.rdx_relations.specs.RelationForms.{CaseForm, case_form, RelationForm}
use Rattle.rdx_templates.specs.Scope.{Scope}
use Rattle.rdx_relations.specs.Shorthand.{behind_with, Shortcut, shortcut_form, is_known_arrow}
use Rattle.rdx_parts.specs.Stands.{Stand, misshaped, arrow, pattern, template, repeated, bound_in, names_bound, bound_by_extras, extras_stand}

-- the symbols that bind names in the pattern and the extras of a case
abbrev pub bound_by_case : Scope → List (List ℕ) → CaseForm → List patterns.Bound
bound_by_case S ns c = bound_in ns c.pattern ++ bound_by_extras of_case S ns c.extras

-- what stands in the case d
abbrev pub case_stands : Scope → List (List ℕ) → Sexp → Option CaseForm → List Stand
case_stands S ns d None = misshaped d ∷ []
case_stands S ns d (Some c) =
    arrow c.arrow ∷ pattern [] (occurrences 0 c.pattern) ∷ template (names_bound (bound_by_case S ns c)) c.result
    ∷ extras_stand of_case S ns (bound_in ns c.pattern) false c.extras

-- what stands in cases
abbrev pub cases_stand : Scope → List (List ℕ) → List Sexp → List Stand
cases_stand S ns [] = []
cases_stand S ns (d ∷ ds) = case_stands S ns d (case_form d) ++ cases_stand S ns ds

-- what stands in a domain
abbrev pub domain_stands : Option Sexp → List Stand
domain_stands None = []
domain_stands (Some p) = pattern [] (occurrences 0 p) ∷ []

-- what stands in the form d without shorthand, which has these parts
abbrev pub expanded_stands : Scope → List (List ℕ) → RelationForm → List Stand
expanded_stands S ns r = domain_stands r.domain ++ cases_stand S ns r.cases

-- the arrows of a shortcut that are at fault, behind shortcuts with these arrows; the rest of it is looked at where cases use it
abbrev pub arrows_stand : List (List ℕ) → Shortcut → List Stand
arrows_stand seen s =
    (if is_known_arrow seen s.old then [] else arrow s.old ∷ []) ++ (if is_among seen (text_of s.new) then repeated s.new ∷ [] else [])

-- what stands in d, which has to be a shortcut
abbrev pub shortcut_stands : List (List ℕ) → Sexp → Option Shortcut → List Stand
shortcut_stands seen d None = misshaped d ∷ []
shortcut_stands seen d (Some s) = arrows_stand seen s

-- these arrows with that of a shortcut
abbrev pub arrows_with : List (List ℕ) → Option Shortcut → List (List ℕ)
arrows_with seen None = seen
arrows_with seen (Some s) = text_of s.new ∷ seen

-- what stands in data that have to be shortcuts
abbrev pub shortcuts_stand : List (List ℕ) → List Sexp → List Stand
shortcuts_stand seen [] = []
shortcuts_stand seen (d ∷ ds) = shortcut_stands seen d (shortcut_form d) ++ shortcuts_stand (arrows_with seen (shortcut_form d)) ds

-- what stands in the form d, which has these parts: in what it is without shorthand, and in its shortcuts
abbrev pub relation_stands : Scope → List (List ℕ) → Sexp → Option RelationForm → List Stand
relation_stands S ns d None = misshaped d ∷ []
relation_stands S ns d (Some r) = expanded_stands S ns (expanded_form r) ++ shortcuts_stand [] (behind_with r.cases)

-- The nonterminals to which a relation asks for cross nonterminals.
use Rattle.std.specs.Prelude.{ℕ, List, [], ◌++◌, Option, Some, None, flat_map}
use Rattle.rdx_sexp.specs.Sexp.{Sexp}
use Rattle.rdx_patterns.specs.Ends.{ends_in}
use Rattle.rdx_relations.specs.Expansion.{expanded_form}
use Rattle.rdx_relations.specs.RelationForms.{RelationForm, relation_form}

-- those of a domain, where there is one
abbrev pub domain_ends : Option Sexp → List (List ℕ)
domain_ends None = []
domain_ends (Some p) = ends_in p

-- those of a relation without shorthand
abbrev pub expanded_ends : RelationForm → List (List ℕ)
expanded_ends r = domain_ends r.domain ++ flat_map ends_in r.cases

-- and of one with these parts, by what its cases are without shorthand: a shortcut that no case uses asks for none
abbrev pub ends_by : Option RelationForm → List (List ℕ)
ends_by None = []
ends_by (Some r) = expanded_ends (expanded_form r)

-- of a form
abbrev pub relation_ends : Sexp → List (List ℕ)
relation_ends d = ends_by (relation_form d)

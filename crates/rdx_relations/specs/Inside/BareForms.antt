-- What stands in a form of a relation, without what is bound before it.
use Rattle.std.specs.Prelude.{false, [], List, ◌∷◌, ◌++◌, Option, Some, None}
use Rattle.rdx_sexp.specs.Sexp.{Sexp}
use Rattle.rdx_relations.specs.Inside.FormOutlines.{case_branch}
use Rattle.rdx_relations.specs.RelationForms.{CaseForm, case_form, RelationForm}
use Rattle.rdx_relations.specs.RelationStands.{domain_stands, shortcuts_stand}
use Rattle.rdx_templates.specs.Scope.{Scope}
use Rattle.rdx_parts.specs.Stands.{Stand, misshaped, arrow}
use Rattle.rdx_parts.specs.BareStands.{branch_stands}

-- in the case d
abbrev pub case_stands : Scope → Sexp → Option CaseForm → List Stand
case_stands S d None = misshaped d ∷ []
case_stands S d (Some c) = arrow c.arrow ∷ branch_stands S false (case_branch c)

-- in cases
abbrev pub cases_stand : Scope → List Sexp → List Stand
cases_stand S [] = []
cases_stand S (d ∷ ds) = case_stands S d (case_form d) ++ cases_stand S ds

-- in a relation without shorthand with these parts
abbrev pub expanded_stands : Scope → RelationForm → List Stand
expanded_stands S r = domain_stands r.domain ++ cases_stand S r.cases

-- and with these shortcuts behind them
abbrev pub relation_stands : Scope → RelationForm → List Sexp → List Stand
relation_stands S r ds = expanded_stands S r ++ shortcuts_stand [] ds

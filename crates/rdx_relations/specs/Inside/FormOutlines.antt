-- The outlines of relations: the branches of their cases, and their domains.
use Rattle.std.specs.Prelude.{[], List, ◌∷◌, ◌++◌, Option, Some, None}
use Rattle.rdx_sexp.specs.Sexp.{Sexp}
use Rattle.rdx_parts.specs.ExtraForms.{of_case}
use Rattle.rdx_relations.specs.RelationForms.{CaseForm, case_form, RelationForm}
use Rattle.rdx_parts.specs.Outlines.{one, Branch, Outline}

-- the branch of a case
abbrev pub case_branch : CaseForm → Branch
case_branch c = record { takes = one c.pattern; place = of_case; extras = c.extras; result = c.result }

-- where there is one
abbrev pub in_case : Option CaseForm → List Branch
in_case None = []
in_case (Some c) = case_branch c ∷ []

-- the branches of cases
abbrev pub case_branches : List Sexp → List Branch
case_branches [] = []
case_branches (d ∷ ds) = in_case (case_form d) ++ case_branches ds

-- a domain, where there is one
abbrev pub domain_patterns : Option Sexp → List Sexp
domain_patterns None = []
domain_patterns (Some p) = p ∷ []

-- the outline of a relation
abbrev pub relation_outline : RelationForm → Outline
relation_outline r = record { alone = domain_patterns r.domain; branches = case_branches r.cases; rules = []; questions = [] }

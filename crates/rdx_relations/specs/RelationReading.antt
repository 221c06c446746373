-- The relation that a form stands for, over the nonterminals ns of its language. A form that is refused has one too, which counts for nothing.
use Rattle.std.specs.Prelude.{ℕ, List, [], ◌∷◌, Option, Some, None, option_map}
use Rattle.rdx_sexp.specs.Sexp.{Sexp}
use Rattle.rdx_lang.specs.Programs.{Rule, Relation}
use Rattle.rdx_patterns.specs.Parts.{text_of}
use Rattle.rdx_patterns.specs.Reading.{reading}
use Rattle.rdx_patterns.specs.declared.patterns.position.Position.TheVariants.{Query}
use Rattle.rdx_relations.specs.Expansion.{expanded_form}
use Rattle.rdx_parts.specs.ExtraForms.{ExtraForm, such_that, provided, confirmed, holding, freshly, name, no_extra, of_case, form_at}
use Rattle.rdx_parts.specs.ExtraReading.{extras_reading}
use Rattle.rdx_relations.specs.RelationForms.{CaseForm, case_form, RelationForm}
use Rattle.rdx_relations.specs.RelationStands.{bound_by_case}
use Rattle.rdx_templates.specs.Scope.{Scope}
use Rattle.rdx_templates.specs.TemplateReading.{template_reading}
use Rattle.rdx_parts.specs.StandChecks.{label}
use Rattle.rdx_parts.specs.Stands.{bound_in, names_bound}

-- the name that such an extra is, before the one that comes later
abbrev pub name_before : Sexp → ExtraForm → Option (List ℕ) → Option (List ℕ)
name_before d (such_that p t) later = later
name_before d (provided h) later = later
name_before d (confirmed t) later = later
name_before d (holding e) later = later
name_before d (freshly ds) later = later
name_before d name later = Some (label d)
name_before d no_extra later = later

-- the first name among extras
abbrev pub first_name : List Sexp → Option (List ℕ)
first_name [] = None
first_name (d ∷ ds) = name_before d (form_at of_case d) (first_name ds)

-- the rule of a case
abbrev pub rule_reading : Scope → List (List ℕ) → CaseForm → Rule
rule_reading S ns c = record {
  name = first_name c.extras;
  pattern = reading ns Query c.pattern;
  extras = extras_reading of_case S ns (bound_in ns c.pattern) c.extras;
  result = template_reading S (names_bound (bound_by_case S ns c)) c.result;
}

-- the rule of a case, before the rules behind it
abbrev pub with_rule : Scope → List (List ℕ) → Option CaseForm → List Rule → List Rule
with_rule S ns None rs = rs
with_rule S ns (Some c) rs = rule_reading S ns c ∷ rs

-- the rules of cases
abbrev pub rules_reading : Scope → List (List ℕ) → List Sexp → List Rule
rules_reading S ns [] = []
rules_reading S ns (d ∷ ds) = with_rule S ns (case_form d) (rules_reading S ns ds)

-- the relation of this name that a form without shorthand with these parts stands for
abbrev pub expanded_reading : Scope → List (List ℕ) → List ℕ → RelationForm → Relation
expanded_reading S ns x r = record {
  name = x;
  language = text_of r.language;
  domain = option_map (reading ns Query) r.domain;
  rules = rules_reading S ns r.cases;
}

-- and one with these parts, which may have shorthand
abbrev pub relation_reading : Scope → List (List ℕ) → List ℕ → RelationForm → Relation
relation_reading S ns x r = expanded_reading S ns x (expanded_form r)

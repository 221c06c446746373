-- The scope of a file: what each form of it defines in all of it, if the form has its outer shape. For this any datum counts as a pattern, a
-- template or a host expression.
use Rattle.std.specs.Prelude.{ℕ, Bool, false, ◌&&◌, List, [], Option, Some, None, map, flat_map, bytes_eq, if◌then◌else◌}
use Rattle.std.specs.List.{list_all}
use Rattle.rdx_sexp.specs.Sexp.{Sexp}
use Rattle.rdx_lang.specs.Programs.{Mode}
use Rattle.rdx_patterns.specs.Parts.{text_of}
use Rattle.rdx_patterns.specs.Reading.{name_in}
use Rattle.rdx_parts.specs.ExtraForms.{of_clause, of_rule, form_at, ExtraPlace, is_condition}
use Rattle.rdx_defs.specs.JudgementForms.{RuleForm, rule_form, JudgementForm, judgement_form, judgement_in, own_mode, are_fit_options}
use Rattle.rdx_defs.specs.MetafunctionForms.{ClauseForm, clause_form, MetafunctionForm, metafunction_form, function_in}
use Rattle.rdx_templates.specs.Scope.{Scope}

-- all these are what they are to be at such a place, other than names
abbrev pub are_conditions : ExtraPlace → List Sexp → Bool
are_conditions k ds = list_all (λ d. is_condition (form_at k d)) ds

-- ---- metafunctions

-- the data have the shape of a clause of the metafunction x
abbrev pub is_clause_of : List ℕ → Option ClauseForm → Bool
is_clause_of x None = false
is_clause_of x (Some c) = bytes_eq (text_of c.function) x && are_conditions of_clause c.extras

-- the name, where all these are clauses of it, and it is one, which `hole` is not
abbrev pub function_of_all : Option Sexp → List Sexp → List (List ℕ)
function_of_all None ds = []
function_of_all (Some f) ds = if list_all (λ d. is_clause_of (text_of f) (clause_form d)) ds then name_in f else []

-- the name of a metafunction with these parts, where they have their shape
abbrev pub metafunction_name : Option MetafunctionForm → List (List ℕ)
metafunction_name None = []
metafunction_name (Some m) = function_of_all (function_in m) m.clauses

-- ---- judgements

-- the data have the shape of a rule of the judgement of this name
abbrev pub is_rule_of : Sexp → Option RuleForm → Bool
is_rule_of j None = false
is_rule_of j (Some r) = bytes_eq (text_of r.parts.head) (text_of j) && are_conditions of_rule r.premises

-- the name of a judgement with its mode, if it has a name, which `hole` is not
abbrev pub with_mode : Sexp → Option Mode → List (List ℕ × Mode)
with_mode j None = []
with_mode j (Some m) = map (λ x. (x, m)) (name_in j)

-- the same, where its options and its rules have their shape
abbrev pub judgement_by : JudgementForm → Option Sexp → List (List ℕ × Mode)
judgement_by f None = []
judgement_by f (Some j) =
    if are_fit_options (Some j) [] f.options && list_all (λ d. is_rule_of j (rule_form d)) f.rules then with_mode j (own_mode f) else []

-- the name of a judgement with these parts, with its mode
abbrev pub judgement_moded : Option JudgementForm → List (List ℕ × Mode)
judgement_moded None = []
judgement_moded (Some f) = judgement_by f (judgement_in f)

-- the name of the language of a judgement with these parts, where there are some
abbrev pub language_text : Option JudgementForm → List ℕ
language_text None = []
language_text (Some f) = text_of f.language

-- ---- forms

-- the metafunctions that a form defines
abbrev pub defined_functions : Sexp → List (List ℕ)
defined_functions d = metafunction_name (metafunction_form d)

-- the judgements, with their modes
abbrev pub defined_judgements : Sexp → List (List ℕ × Mode)
defined_judgements d = judgement_moded (judgement_form d)

-- and the same with the names of their languages
abbrev pub defined_languages : Sexp → List (List ℕ × List ℕ)
defined_languages d = map (λ j. (j.0, language_text (judgement_form d))) (defined_judgements d)

-- the judgements that these forms define, in their order, each with the name of its language, which may be `hole`
abbrev pub languages_in : List Sexp → List (List ℕ × List ℕ)
languages_in ds = flat_map defined_languages ds

-- the scope of these forms
abbrev pub scope_in : List Sexp → Scope
scope_in ds = record { metafunctions = flat_map defined_functions ds; judgements = flat_map defined_judgements ds }

-- Forms that define a relation by cases, `(define R (reduction-relation L case ...))`: when they are refused, and what they define else.
use Rattle.std.specs.Prelude.{ℕ, List, [], ◌∷◌, Option, Some, None, option_map, if◌then◌else◌}
use Rattle.rdx_sexp.specs.Sexp.{Sexp}
use Rattle.rdx_lang.specs.Programs.{Relation}
use Rattle.rdx_patterns.specs.Names.{is_bad_name}
use Rattle.rdx_patterns.specs.Nonterminals.{names_of}
use Rattle.rdx_patterns.specs.Parts.{text_of}
use Rattle.rdx_patterns.specs.Refusal.{Refusal, unnamed, named, first_refusal}
use Rattle.rdx_patterns.specs.declared.shape.fault.DefKind.TheVariants.{Shape, BadName}
use Rattle.rdx_relations.specs.RelationForms.{relation_form}
use Rattle.rdx_relations.specs.RelationReading.{relation_reading}
use Rattle.rdx_relations.specs.RelationStands.{relation_stands}
use Rattle.rdx_parts.specs.StandChecks.{shape_at, repeated_name_at, bad_name_at, bad_place_at, depth_fault_at, unknown_name_at, undriven_at, escape_at, mode_fault_at}
use Rattle.rdx_parts.specs.Stands.{Stand}
use Rattle.rdx_forms.specs.DefineParts.{DefineParts}
use Rattle.rdx_forms.specs.Known.{Known}
use Rattle.rdx_forms.specs.LanguageForms.{named_base, unknown_at, name_taken_at}

-- ---- the parts

-- the name of the language that it names
abbrev pub relation_language : DefineParts → Option Sexp
relation_language q = option_map (λ r. r.language) (relation_form q.body)

-- ---- check by check

-- S1: more than the name and the list stands in the form d, or a part of the list has not its shape
abbrev pub define_shape_at : Sexp → List Sexp → List Stand → Option Refusal
define_shape_at d [] ss = shape_at ss
define_shape_at d (e ∷ es) ss = Some (unnamed Shape d)

-- S4: the name may not be that of a relation
abbrev pub bad_relation_at : Sexp → Option Refusal
bad_relation_at x = if is_bad_name (text_of x) then Some (named BadName x) else None

-- ---- all checks

-- the refusal of the form d with these parts, in which these stand, over the nonterminals ns of its language
abbrev pub cases_refusal_over : Known → Sexp → DefineParts → List (List ℕ) → List Stand → Option Refusal
cases_refusal_over K d q ns ss =
    first_refusal
    (define_shape_at d q.rest ss  -- S1
    ∷ unknown_at K (relation_language q)  -- S2
    ∷ name_taken_at K q.name  -- S3
    ∷ repeated_name_at ss  -- S3
    ∷ bad_relation_at q.name  -- S4
    ∷ bad_name_at ss  -- S4
    ∷ bad_place_at K.scope ns ss  -- S5
    ∷ depth_fault_at K.scope ns ss  -- S6
    ∷ unknown_name_at K.scope ss  -- S8
    ∷ undriven_at K.scope ss  -- S9
    ∷ escape_at K.scope ss  -- S10
    ∷ mode_fault_at ss  -- S11
    ∷ [])

-- the nonterminals of the language that it names
abbrev pub relation_names : Known → DefineParts → List (List ℕ)
relation_names K q = names_of (named_base K (relation_language q))

-- the refusal of the form d with these parts
abbrev pub cases_refusal : Known → Sexp → DefineParts → Option Refusal
cases_refusal K d q =
    cases_refusal_over K d q (relation_names K q) (relation_stands K.scope (relation_names K q) q.body (relation_form q.body))

-- ---- what is defined

-- the relation that a form with these parts defines, if the list has its parts
abbrev pub cases_relation : Known → DefineParts → Option Relation
cases_relation K q = option_map (relation_reading K.scope (relation_names K q) (text_of q.name)) (relation_form q.body)

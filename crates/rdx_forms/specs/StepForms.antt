-- Forms that ask for the steps of a relation, `(head R h)`: when they are refused, and what they ask else.
use Rattle.std.specs.Prelude.{ℕ, List, [], ◌∷◌, Option, Some, None, option_map, if◌then◌else◌}
use Rattle.rdx_sexp.specs.Sexp.{Sexp}
use Rattle.rdx_lang.specs.Programs.{Relation, relation_named}
use Rattle.rdx_lang.specs.Templates.{Host}
use Rattle.rdx_patterns.specs.Parts.{parts, is_symbol, text_of}
use Rattle.rdx_patterns.specs.Refusal.{Refusal, unnamed, named, first_refusal}
use Rattle.rdx_patterns.specs.declared.shape.fault.DefKind.TheVariants.{Shape, UnknownName}
use Rattle.rdx_templates.specs.TemplateOccurrences.{TemplatePart}
use Rattle.rdx_forms.specs.HostForms.{parts_of_host, host_of_datum, host_shape_at, bad_host_at, undriven_host_at, host_escape_at}
use Rattle.rdx_forms.specs.Known.{Known}
use Rattle.rdx_answer.specs.Queries.{Query}

-- ---- the parts

-- the name of a relation, and the host expression that gives the term
pub record StepParts : Type 0 where
  pub relation : Sexp
  pub host : Sexp

-- the parts of a list `(head R h)`
abbrev pub steps_among : Option (List Sexp) → Option StepParts
steps_among (Some (h ∷ r ∷ t ∷ [])) = Some (record { relation = r; host = t })
steps_among o = None

-- the parts of such a form, where it has three items
abbrev pub step_parts : Sexp → Option StepParts
step_parts d = steps_among (parts d)

-- ---- check by check

-- the parts of a form whose relation is a symbol
abbrev pub checked_steps : Option StepParts → Option StepParts
checked_steps None = None
checked_steps (Some q) = if is_symbol q.relation then Some q else None

-- S1: the form has not its parts, or something in its host expression has not its shape
abbrev pub steps_shape_at : Sexp → Option StepParts → Option Refusal
steps_shape_at d None = Some (unnamed Shape d)
steps_shape_at d (Some q) = host_shape_at q.host

-- what stands in its host expression
abbrev pub steps_host : Known → Option StepParts → List TemplatePart
steps_host K None = []
steps_host K (Some q) = parts_of_host K q.host

-- the name r, where no relation was found by it
abbrev pub unknown_relation_by : Option Relation → Sexp → Option Refusal
unknown_relation_by None r = Some (named UnknownName r)
unknown_relation_by (Some R) r = None

-- S8: the name is that of no relation
abbrev pub unknown_relation_at : Known → Option StepParts → Option Refusal
unknown_relation_at K None = None
unknown_relation_at K (Some q) = unknown_relation_by (relation_named K.program (text_of q.relation)) q.relation

-- ---- all checks

-- the refusal of a form with these parts
abbrev pub steps_refusal : Known → Sexp → Option StepParts → Option Refusal
steps_refusal K d q =
    first_refusal
    (steps_shape_at d (checked_steps q)  -- S1
    ∷ bad_host_at (steps_host K q)  -- S5
    ∷ unknown_relation_at K q  -- S8
    ∷ undriven_host_at K (steps_host K q)  -- S9
    ∷ host_escape_at (steps_host K q)  -- S10
    ∷ [])

-- ---- what is asked

-- the query of such a kind that the form d asks, if it has the parts
abbrev pub steps_query : Known → (List ℕ → Host → Query) → Sexp → Option Query
steps_query K kind d = option_map (λ q. kind (text_of q.relation) (host_of_datum K q.host)) (step_parts d)

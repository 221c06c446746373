-- Forms that are a host expression, and host expressions in queries: no name is bound in them.
use Rattle.std.specs.Prelude.{List, [], Option, option_map}
use Rattle.rdx_sexp.specs.Sexp.{Sexp}
use Rattle.rdx_lang.specs.Templates.{Host}
use Rattle.rdx_patterns.specs.Refusal.{Refusal, unnamed}
use Rattle.rdx_patterns.specs.declared.shape.fault.DefKind.TheVariants.{Shape, BadPattern, EllipsisVariable, RacketEscape}
use Rattle.rdx_templates.specs.Earliest.{start, earliest}
use Rattle.rdx_templates.specs.TemplateChecks.{bad_parts, undriven_parts, escapes}
use Rattle.rdx_templates.specs.TemplateOccurrences.{TemplatePart, host_parts}
use Rattle.rdx_templates.specs.TemplateReading.{host_reading}
use Rattle.rdx_templates.specs.TemplateRefusal.{host_refusal}
use Rattle.rdx_templates.specs.TemplateShapes.{host_shapes}
use Rattle.rdx_forms.specs.Known.{Known}
use Rattle.rdx_answer.specs.Queries.{Query, value}

-- what stands in a host expression
abbrev pub parts_of_host : Known → Sexp → List TemplatePart
parts_of_host K d = host_parts K.scope [] 0 d

-- the host expression that a datum is
abbrev pub host_of_datum : Known → Sexp → Host
host_of_datum K d = host_reading K.scope [] d

-- ---- check by check

-- S1: something in a host expression has not its shape
abbrev pub host_shape_at : Sexp → Option Refusal
host_shape_at d = option_map (unnamed Shape) (earliest start (host_shapes d))

-- S5: a template in it means nothing
abbrev pub bad_host_at : List TemplatePart → Option Refusal
bad_host_at ps = option_map (unnamed BadPattern) (earliest start (bad_parts ps))

-- S9: an ellipsis in it drives no name, since none is bound
abbrev pub undriven_host_at : Known → List TemplatePart → Option Refusal
undriven_host_at K ps = option_map (unnamed EllipsisVariable) (earliest start (undriven_parts K.scope [] ps))

-- S10: it would ask Racket
abbrev pub host_escape_at : List TemplatePart → Option Refusal
host_escape_at ps = option_map (unnamed RacketEscape) (earliest start (escapes ps))

-- ---- forms

-- the refusal of a form that has to be a host expression
abbrev pub value_refusal : Known → Sexp → Option Refusal
value_refusal K d = host_refusal K.scope [] d

-- what it asks
abbrev pub value_query : Known → Sexp → Query
value_query K d = value (host_of_datum K d)

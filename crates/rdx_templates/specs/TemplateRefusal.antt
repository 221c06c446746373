-- When a template or a host expression is refused.
use Rattle.std.specs.Prelude.{List, [], ◌∷◌, Option, option_map}
use Rattle.rdx_sexp.specs.Sexp.{Sexp}
use Rattle.rdx_patterns.specs.Refusal.{Refusal, unnamed, named, first_refusal}
use Rattle.rdx_patterns.specs.declared.shape.fault.DefKind.TheVariants.{Shape, BadPattern, EllipsisDepth, EllipsisVariable, RacketEscape}
use Rattle.rdx_templates.specs.Earliest.{start, earliest}
use Rattle.rdx_templates.specs.Bound.{Bound}
use Rattle.rdx_templates.specs.Scope.{Scope}
use Rattle.rdx_templates.specs.TemplateChecks.{bad_parts, shallow_parts, undriven_parts, escapes}
use Rattle.rdx_templates.specs.TemplateOccurrences.{TemplatePart, template_parts, host_parts}
use Rattle.rdx_templates.specs.TemplateShapes.{template_shapes, host_shapes}

-- the refusal of a template with these data at fault by S1, in which these parts stand, by the check with the least number that refuses it
abbrev pub parts_refusal : Scope → Bound → List Sexp → List TemplatePart → Option Refusal
parts_refusal S bs ds ps =
    first_refusal
    (option_map (unnamed Shape) (earliest start ds)  -- S1
    ∷ option_map (unnamed BadPattern) (earliest start (bad_parts ps))  -- S5
    ∷ option_map (named EllipsisDepth) (earliest start (shallow_parts bs ps))  -- S6
    ∷ option_map (unnamed EllipsisVariable) (earliest start (undriven_parts S bs ps))  -- S9
    ∷ option_map (unnamed RacketEscape) (earliest start (escapes ps))  -- S10
    ∷ [])

-- the refusal of a datum as a template in this scope, where these names are bound
abbrev pub template_refusal : Scope → Bound → Sexp → Option Refusal
template_refusal S bs d = parts_refusal S bs (template_shapes d) (template_parts S bs 0 d)

-- as a host expression
abbrev pub host_refusal : Scope → Bound → Sexp → Option Refusal
host_refusal S bs d = parts_refusal S bs (host_shapes d) (host_parts S bs 0 d)

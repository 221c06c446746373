-- When a template is refused by one of the things that stand in it, by itself.
use Rattle.std.specs.Prelude.{List, [], ◌∷◌, Option, option_map}
use Rattle.rdx_sexp.specs.Sexp.{Sexp}
use Rattle.rdx_patterns.specs.Refusal.{Refusal, unnamed, named, first_refusal}
use Rattle.rdx_patterns.specs.declared.shape.fault.DefKind.TheVariants.{BadPattern, EllipsisDepth, EllipsisVariable, RacketEscape}
use Rattle.rdx_templates.specs.Earliest.{start, earliest}
use Rattle.rdx_templates.specs.Bound.{Bound}
use Rattle.rdx_templates.specs.TemplateChecks.{bad_parts, shallow_parts, escapes}
use Rattle.rdx_templates.specs.TemplateOccurrences.{TemplatePart}

-- the refusal of these by the check behind S1 with the least number, where this is the earliest item whose ellipsis nothing drives
abbrev pub late_refusal : Bound → Option Sexp → List TemplatePart → Option Refusal
late_refusal bs undriven ps =
    first_refusal
    (option_map (unnamed BadPattern) (earliest start (bad_parts ps))  -- S5
    ∷ option_map (named EllipsisDepth) (earliest start (shallow_parts bs ps))  -- S6
    ∷ option_map (unnamed EllipsisVariable) undriven  -- S9
    ∷ option_map (unnamed RacketEscape) (earliest start (escapes ps))  -- S10
    ∷ [])

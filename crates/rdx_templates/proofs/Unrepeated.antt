-- Repeated items say nothing to the checks of shapes, depths and escapes.
use Rattle.std.proofs.Common.{◌≡◌, ◌++◌, ◌∙◌, List, [], ◌∷◌, Option, Some, None, refl, sym, ap}
use Rattle.std.specs.Prelude.{option_map}
use Rattle.rdx_sexp.specs.Sexp.{Sexp}
use Rattle.rdx_patterns.specs.Refusal.{unnamed, named, first_refusal, or_else}
use Rattle.rdx_patterns.specs.declared.shape.fault.DefKind.TheVariants.{Shape, BadPattern, EllipsisDepth, EllipsisVariable, RacketEscape}
use Rattle.rdx_templates.specs.Bound.{Bound}
use Rattle.rdx_templates.specs.Earliest.{earliest, start}
use Rattle.rdx_templates.specs.Inside.PartRefusal.{late_refusal}
use Rattle.rdx_templates.specs.Inside.PartView.{unrepeated}
use Rattle.rdx_templates.specs.Scope.{Scope}
use Rattle.rdx_templates.specs.TemplateChecks.{bad_part, bad_parts, shallow_part, shallow_parts, undriven_parts, escape_in, escapes}
use Rattle.rdx_templates.specs.TemplateOccurrences.{TemplatePart, single, repeated, malformed, escape}
use Rattle.rdx_templates.specs.TemplateRefusal.{parts_refusal}

-- what means nothing
pub bad_unrepeated : (ps : List TemplatePart) → bad_parts (unrepeated ps) ≡ bad_parts ps
bad_unrepeated [] = refl
bad_unrepeated (single n d ∷ ps) = ap (λ (ds : List Sexp). bad_part (single n d) ++ ds) (bad_unrepeated ps)
bad_unrepeated (repeated d ∷ ps) = bad_unrepeated ps
bad_unrepeated (malformed d ∷ ps) = ap (λ (ds : List Sexp). bad_part (malformed d) ++ ds) (bad_unrepeated ps)
bad_unrepeated (escape d ∷ ps) = bad_unrepeated ps

-- names under too few ellipses
pub shallow_unrepeated : (bs : Bound) (ps : List TemplatePart) → shallow_parts bs (unrepeated ps) ≡ shallow_parts bs ps
shallow_unrepeated bs [] = refl
shallow_unrepeated bs (single n d ∷ ps) = ap (λ (ds : List Sexp). shallow_part bs (single n d) ++ ds) (shallow_unrepeated bs ps)
shallow_unrepeated bs (repeated d ∷ ps) = shallow_unrepeated bs ps
shallow_unrepeated bs (malformed d ∷ ps) = shallow_unrepeated bs ps
shallow_unrepeated bs (escape d ∷ ps) = shallow_unrepeated bs ps

-- what would ask Racket
pub escapes_unrepeated : (ps : List TemplatePart) → escapes (unrepeated ps) ≡ escapes ps
escapes_unrepeated [] = refl
escapes_unrepeated (single n d ∷ ps) = escapes_unrepeated ps
escapes_unrepeated (repeated d ∷ ps) = escapes_unrepeated ps
escapes_unrepeated (malformed d ∷ ps) = escapes_unrepeated ps
escapes_unrepeated (escape d ∷ ps) = ap (λ (ds : List Sexp). escape_in (escape d) ++ ds) (escapes_unrepeated ps)

-- ---- refusals

-- the first check, and those behind it, which look at what stands there but for repeated items
pub refused_late : (S : Scope) (bs : Bound) (ds : List Sexp) (ps : List TemplatePart)
    → parts_refusal S bs ds ps ≡ or_else (option_map (unnamed Shape) (earliest start ds)) (late_refusal bs (earliest start (undriven_parts S bs ps)) (unrepeated ps))
refused_late S bs ds ps =
    λ i. or_else (option_map (unnamed Shape) (earliest start ds))
    (first_refusal
    (option_map (unnamed BadPattern) (earliest start (sym (bad_unrepeated ps) i))
    ∷ option_map (named EllipsisDepth) (earliest start (sym (shallow_unrepeated bs ps) i))
    ∷ option_map (unnamed EllipsisVariable) (earliest start (undriven_parts S bs ps))
    ∷ option_map (unnamed RacketEscape) (earliest start (sym (escapes_unrepeated ps) i))
    ∷ []))

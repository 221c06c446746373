-- When a form with such an outline is refused, by the checks in two groups.
use Rattle.std.specs.Prelude.{ℕ, List, [], ◌∷◌, Option, option_map}
use Rattle.rdx_patterns.specs.Refusal.{Refusal, unnamed, named, or_else, first_refusal}
use Rattle.rdx_patterns.specs.declared.shape.fault.DefKind.TheVariants.{BadPattern, EllipsisDepth, EllipsisVariable, RacketEscape}
use Rattle.rdx_templates.specs.Earliest.{start, earliest}
use Rattle.rdx_templates.specs.Scope.{Scope}
use Rattle.rdx_parts.specs.Outlines.{Outline}
use Rattle.rdx_parts.specs.ByNames.{outline_faults}
use Rattle.rdx_parts.specs.NamesAgain.{names_again}
use Rattle.rdx_parts.specs.StandChecks.{shape_at, repeated_at, bad_name_at, unknown_name_at, mode_fault_at}
use Rattle.rdx_parts.specs.Stands.{Stand}
use Rattle.rdx_parts.specs.declared.stands.faults.Check.TheVariants.{Places, Depths, Driving, Escapes}

-- by the checks that come before what is bound has to be known
abbrev pub early_refusal : List (List ℕ) → List Stand → Option Refusal
early_refusal ns ss =
    first_refusal
    (shape_at ss  -- S1
    ∷ option_map repeated_at (earliest start (names_again ns [] [] ss))  -- S3
    ∷ bad_name_at ss  -- S4
    ∷ [])

-- by the others, of a form with this outline, in which these stand
abbrev pub late_refusal : Scope → List (List ℕ) → List Stand → Outline → Option Refusal
late_refusal S ns ss o =
    first_refusal
    (option_map (unnamed BadPattern) (earliest start (outline_faults Places S ns o))  -- S5
    ∷ option_map (named EllipsisDepth) (earliest start (outline_faults Depths S ns o))  -- S6
    ∷ unknown_name_at S ss  -- S8
    ∷ option_map (unnamed EllipsisVariable) (earliest start (outline_faults Driving S ns o))  -- S9
    ∷ option_map (unnamed RacketEscape) (earliest start (outline_faults Escapes S ns o))  -- S10
    ∷ mode_fault_at ss  -- S11
    ∷ [])

-- by all of them
abbrev pub form_refusal : Scope → List (List ℕ) → List Stand → Outline → Option Refusal
form_refusal S ns ss o = or_else (early_refusal ns ss) (late_refusal S ns ss o)

-- When a form in which these things stand is refused.
use Rattle.std.specs.Prelude.{ℕ, List, [], ◌∷◌, Option}
use Rattle.rdx_patterns.specs.Refusal.{Refusal, first_refusal}
use Rattle.rdx_templates.specs.Scope.{Scope}
use Rattle.rdx_parts.specs.StandChecks.{shape_at, repeated_name_at, bad_name_at, bad_place_at, depth_fault_at, unknown_name_at, undriven_at, escape_at, mode_fault_at}
use Rattle.rdx_parts.specs.Stands.{Stand}

-- the refusal in this scope, over the nonterminals ns, by the check with the least number that refuses the form
abbrev pub stands_refusal : Scope → List (List ℕ) → List Stand → Option Refusal
stands_refusal S ns ss =
    first_refusal
    (shape_at ss  -- S1
    ∷ repeated_name_at ss  -- S3
    ∷ bad_name_at ss  -- S4
    ∷ bad_place_at S ns ss  -- S5
    ∷ depth_fault_at S ns ss  -- S6
    ∷ unknown_name_at S ss  -- S8
    ∷ undriven_at S ss  -- S9
    ∷ escape_at S ss  -- S10
    ∷ mode_fault_at ss  -- S11
    ∷ [])

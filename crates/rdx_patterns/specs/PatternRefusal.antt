-- When a pattern is refused that stands outside grammars.
use Rattle.std.specs.Prelude.{ℕ, List, [], ◌∷◌, Option, option_map}
use Rattle.rdx_sexp.specs.Sexp.{Sexp}
use Rattle.rdx_patterns.specs.Occurrences.{Occurrence, occurrences}
use Rattle.rdx_patterns.specs.PatternChecks.{keyword_faults, bad_binders, bad_occurrences, depth_clashes, escapes}
use Rattle.rdx_patterns.specs.Refusal.{Refusal, unnamed, named, first, first_refusal}
use Rattle.rdx_patterns.specs.declared.shape.fault.DefKind.TheVariants.{Shape, BadName, BadPattern, EllipsisDepth, RacketEscape}
use Rattle.rdx_patterns.specs.declared.patterns.position.Position.TheVariants.{Query}

-- S1: the first keyword
abbrev pub keyword_at : List Occurrence → Option Refusal
keyword_at os = option_map (unnamed Shape) (first (keyword_faults os))

-- S4: the first name that is bound and may not be
abbrev pub bad_binder_at : List Occurrence → Option Refusal
bad_binder_at os = option_map (named BadName) (first (bad_binders os))

-- S5: the first part that means nothing, over these nonterminals
abbrev pub bad_occurrence_at : List (List ℕ) → List Occurrence → Option Refusal
bad_occurrence_at ns os = option_map (unnamed BadPattern) (first (bad_occurrences ns os))

-- S6: the first symbol that binds a name at another depth than one before it, over these nonterminals
abbrev pub depth_clash_at : List (List ℕ) → List Occurrence → Option Refusal
depth_clash_at ns os = option_map (named EllipsisDepth) (first (depth_clashes ns Query os))

-- S10: the first list that would ask Racket
abbrev pub escape_at : List Occurrence → Option Refusal
escape_at os = option_map (unnamed RacketEscape) (first (escapes os))

-- the refusal by the check with the least number that refuses a pattern outside grammars, over these nonterminals
abbrev pub pattern_refusal : List (List ℕ) → Sexp → Option Refusal
pattern_refusal ns d =
    first_refusal
    (keyword_at (occurrences 0 d)  -- S1
    ∷ bad_binder_at (occurrences 0 d)  -- S4
    ∷ bad_occurrence_at ns (occurrences 0 d)  -- S5
    ∷ depth_clash_at ns (occurrences 0 d)  -- S6
    ∷ escape_at (occurrences 0 d)  -- S10
    ∷ [])

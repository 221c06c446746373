-- Forms that are passed over: `(require m ...)`, where each m names a module of Redex or Racket, and `(provide d ...)`.
use Rattle.std.specs.Prelude.{ℕ, Bool, not, ◌&&◌, ◌||◌, List, [], ◌∷◌, Option, Some, None, option_map, flat_map, codes, nat_eq}
use Rattle.std.specs.List.{starts_with}
use Rattle.rdx_sexp.specs.Sexp.{Sexp}
use Rattle.rdx_patterns.specs.Parts.{parts, is_symbol, text_of}
use Rattle.rdx_patterns.specs.PatternChecks.{when}
use Rattle.rdx_patterns.specs.Refusal.{Refusal, unnamed, first, first_refusal}
use Rattle.rdx_patterns.specs.declared.shape.fault.DefKind.TheVariants.{Shape, RacketEscape}

-- the items behind the head of a list
abbrev pub wanted_among : Option (List Sexp) → List Sexp
wanted_among None = []
wanted_among (Some []) = []
wanted_among (Some (h ∷ ds)) = ds

-- the modules that a form wants
abbrev pub wanted : Sexp → List Sexp
wanted d = wanted_among (parts d)

-- the module is one of Redex or of Racket, by how its name begins
abbrev pub is_known_module : List ℕ → Bool
is_known_module x = starts_with nat_eq x (codes "redex") || starts_with nat_eq x (codes "racket")

-- S1: what is no symbol
abbrev pub unnamed_modules : List Sexp → List Sexp
unnamed_modules ds = flat_map (λ d. when (not (is_symbol d)) d) ds

-- S10: the name of another module
abbrev pub other_modules : List Sexp → List Sexp
other_modules ds = flat_map (λ d. when (is_symbol d && not (is_known_module (text_of d))) d) ds

-- the refusal of `(require m ...)`
abbrev pub wants_refusal : Sexp → Option Refusal
wants_refusal d =
    first_refusal
    (option_map (unnamed Shape) (first (unnamed_modules (wanted d)))  -- S1
    ∷ option_map (unnamed RacketEscape) (first (other_modules (wanted d)))  -- S10
    ∷ [])

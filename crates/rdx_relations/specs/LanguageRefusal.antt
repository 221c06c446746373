-- When a form over a language is refused.
use Rattle.std.specs.Prelude.{ℕ, List, [], ◌∷◌, Option, Some, None, codes, if◌then◌else◌}
use Rattle.rdx_sexp.specs.Sexp.{Sexp}
use Rattle.rdx_patterns.specs.Parts.{is_word}
use Rattle.rdx_patterns.specs.Refusal.{Refusal, named, first_refusal}
use Rattle.rdx_patterns.specs.declared.shape.fault.DefKind.TheVariants.{UnknownLanguage}
use Rattle.rdx_templates.specs.Scope.{Scope}
use Rattle.rdx_parts.specs.StandChecks.{shape_at}
use Rattle.rdx_parts.specs.StandRefusal.{stands_refusal}
use Rattle.rdx_parts.specs.Stands.{Stand}

-- S2: the language that the form names is one that no form defines, in whatever file: `hole` names none
abbrev pub unnamable_language_at : Option Sexp → Option Refusal
unnamable_language_at None = None
unnamable_language_at (Some l) = if is_word (codes "hole") l then Some (named UnknownLanguage l) else None

-- the refusal of a form that names this language, where it names one, and in which these things stand; in this scope, over the nonterminals ns
abbrev pub refusal_over : Scope → List (List ℕ) → Option Sexp → List Stand → Option Refusal
refusal_over S ns l ss =
    first_refusal
    (shape_at ss  -- S1
    ∷ unnamable_language_at l  -- S2
    ∷ stands_refusal S ns ss  -- S3 to S11
    ∷ [])

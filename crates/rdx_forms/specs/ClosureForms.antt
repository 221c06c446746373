-- Forms that define a relation as a closure of another one, `(define R (context-closure r L p))` and `(define R (compatible-closure r L e))`:
-- when they are refused, and what they define else (the Redex reference manual, "Reduction Relations").
use Rattle.std.specs.Prelude.{ℕ, List, [], ◌∷◌, Option, Some, None, bytes_eq, option_map, if◌then◌else◌}
use Rattle.rdx_sexp.specs.Sexp.{Sexp}
use Rattle.rdx_lang.specs.Closures.{context_closure, compatible_closure}
use Rattle.rdx_lang.specs.Programs.{Relation, relation_named}
use Rattle.rdx_patterns.specs.Kinds.{is_among}
use Rattle.rdx_patterns.specs.Nonterminals.{names_of}
use Rattle.rdx_patterns.specs.Occurrences.{Occurrence, occurrences}
use Rattle.rdx_patterns.specs.Parts.{text_of}
use Rattle.rdx_patterns.specs.PatternRefusal.{keyword_at, bad_binder_at, bad_occurrence_at, depth_clash_at, escape_at}
use Rattle.rdx_patterns.specs.Reading.{reading}
use Rattle.rdx_patterns.specs.Refusal.{Refusal, unnamed, named, or_else, first_refusal}
use Rattle.rdx_patterns.specs.declared.shape.fault.DefKind.TheVariants.{Shape, UnknownLanguage, BadPattern}
use Rattle.rdx_patterns.specs.declared.patterns.position.Position.TheVariants as position
use Rattle.rdx_forms.specs.DefineParts.{DefineParts, ClosureParts, closure_parts, with_symbol}
use Rattle.rdx_forms.specs.Known.{Known}
use Rattle.rdx_forms.specs.LanguageForms.{named_base, unknown_at, name_taken_at}
use Rattle.rdx_forms.specs.RelationForms.{bad_relation_at}
use Rattle.rdx_forms.specs.StepForms.{unknown_relation_by}

-- ---- the relation and the language

-- the relation that is closed
abbrev pub closed_relation : Known → ClosureParts → Option Relation
closed_relation K q = relation_named K.program (text_of q.relation)

-- the nonterminals of the language
abbrev pub closure_names : Known → ClosureParts → List (List ℕ)
closure_names K q = names_of (named_base K (Some q.language))

-- the name l, where it is another than that of the relation's language
abbrev pub other_language_by : Option Relation → Sexp → Option Refusal
other_language_by None l = None
other_language_by (Some R) l = if bytes_eq R.language (text_of l) then None else Some (named UnknownLanguage l)

-- S2: the name is that of no language, or not that of the relation's
abbrev pub closure_language_at : Known → ClosureParts → Option Refusal
closure_language_at K q = or_else (unknown_at K (Some q.language)) (other_language_by (closed_relation K q) q.language)

-- S8: the relation's name is that of no relation
abbrev pub unknown_closed_at : Known → ClosureParts → Option Refusal
unknown_closed_at K q = unknown_relation_by (closed_relation K q) q.relation

-- ---- check by check

-- S1: more than the name and the list b stands in the form d, or the list has not its parts
abbrev pub closure_shape_at : Sexp → Sexp → List Sexp → Option ClosureParts → Option Refusal
closure_shape_at d b (e ∷ es) o = Some (unnamed Shape d)
closure_shape_at d b [] None = Some (unnamed Shape b)
closure_shape_at d b [] (Some c) = None

-- S5: the symbol e is none of these nonterminals
abbrev pub no_nonterminal_at : List (List ℕ) → Sexp → Option Refusal
no_nonterminal_at ns e = if is_among ns (text_of e) then None else Some (unnamed BadPattern e)

-- the refusal of the form d whose list has not its parts
abbrev pub misshaped_refusal : Sexp → DefineParts → Option Refusal
misshaped_refusal d q = closure_shape_at d q.body q.rest None  -- S1

-- ---- closures by contexts that a pattern matches

-- the refusal of the form d, in whose pattern these stand, over the nonterminals ns
abbrev pub context_refusal_over : Known → Sexp → DefineParts → ClosureParts → List (List ℕ) → List Occurrence → Option Refusal
context_refusal_over K d q c ns os =
    first_refusal
    (closure_shape_at d q.body q.rest (Some c)  -- S1
    ∷ keyword_at os  -- S1
    ∷ closure_language_at K c  -- S2
    ∷ name_taken_at K q.name  -- S3
    ∷ bad_relation_at q.name  -- S4
    ∷ bad_binder_at os  -- S4
    ∷ bad_occurrence_at ns os  -- S5
    ∷ depth_clash_at ns os  -- S6
    ∷ unknown_closed_at K c  -- S8
    ∷ escape_at os  -- S10
    ∷ [])

-- the refusal of the form d by the parts of its list
abbrev pub context_refusal_by : Known → Sexp → DefineParts → Option ClosureParts → Option Refusal
context_refusal_by K d q None = misshaped_refusal d q
context_refusal_by K d q (Some c) = context_refusal_over K d q c (closure_names K c) (occurrences 0 c.by)

-- the refusal of `(define R (context-closure r L p))`
abbrev pub context_refusal : Known → Sexp → DefineParts → Option Refusal
context_refusal K d q = context_refusal_by K d q (closure_parts q.body)

-- the relation that it defines, by the parts of its list: the closure by the pattern, which is read over the nonterminals of its language
abbrev pub context_relation_by : Known → DefineParts → Option ClosureParts → Option Relation
context_relation_by K q None = None
context_relation_by K q (Some c) =
    option_map (context_closure (reading (closure_names K c) position.Query c.by) (text_of q.name)) (closed_relation K c)

-- if the list has its parts, and the relation is known
abbrev pub context_relation : Known → DefineParts → Option Relation
context_relation K q = context_relation_by K q (closure_parts q.body)

-- ---- closures by the contexts of an e in an e

-- the refusal of the form d by the parts of its list
abbrev pub compatible_refusal_by : Known → Sexp → DefineParts → Option ClosureParts → Option Refusal
compatible_refusal_by K d q None = misshaped_refusal d q
compatible_refusal_by K d q (Some c) =
    first_refusal
    (closure_shape_at d q.body q.rest (Some c)  -- S1
    ∷ closure_language_at K c  -- S2
    ∷ name_taken_at K q.name  -- S3
    ∷ bad_relation_at q.name  -- S4
    ∷ no_nonterminal_at (closure_names K c) c.by  -- S5
    ∷ unknown_closed_at K c  -- S8
    ∷ [])

-- the refusal of `(define R (compatible-closure r L e))`
abbrev pub compatible_refusal : Known → Sexp → DefineParts → Option Refusal
compatible_refusal K d q = compatible_refusal_by K d q (with_symbol (closure_parts q.body))

-- the relation that it defines, by the parts of its list
abbrev pub compatible_relation_by : Known → DefineParts → Option ClosureParts → Option Relation
compatible_relation_by K q None = None
compatible_relation_by K q (Some c) = option_map (compatible_closure (text_of c.by) (text_of q.name)) (closed_relation K c)

-- if the list has its parts, and the relation is known
abbrev pub compatible_relation : Known → DefineParts → Option Relation
compatible_relation K q = compatible_relation_by K q (with_symbol (closure_parts q.body))

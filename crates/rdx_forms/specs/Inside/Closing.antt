-- What is answered to a form that defines a relation as a closure of another one, where nothing stands behind its list.
use Rattle.std.specs.Prelude.{[], ◌∷◌, Option, Some, None, Result, option_map}
use Rattle.rdx_sexp.specs.Sexp.{Sexp}
use Rattle.rdx_lang.specs.Closures.{context_closure, compatible_closure}
use Rattle.rdx_lang.specs.Programs as model
use Rattle.rdx_lang.specs.declared.program.Relation.{Relation}
use Rattle.rdx_patterns.specs.Parts.{text_of}
use Rattle.rdx_patterns.specs.PatternRefusal.{pattern_refusal}
use Rattle.rdx_patterns.specs.Reading.{reading}
use Rattle.rdx_patterns.specs.Refusal.{Refusal, unnamed, first_refusal}
use Rattle.rdx_patterns.specs.declared.shape.fault.DefFault.{DefFault}
use Rattle.rdx_patterns.specs.declared.shape.fault.DefKind.TheVariants.{Shape}
use Rattle.rdx_patterns.specs.declared.patterns.position.Position.TheVariants as position
use Rattle.rdx_forms.specs.ClosureForms.{closed_relation, closure_names, closure_language_at, unknown_closed_at, no_nonterminal_at}
use Rattle.rdx_forms.specs.DefineParts.{ClosureParts, closure_parts, with_symbol}
use Rattle.rdx_forms.specs.Known.{Known}
use Rattle.rdx_forms.specs.LanguageForms.{name_taken_at}
use Rattle.rdx_forms.specs.RelationForms.{bad_relation_at}
use Rattle.rdx_forms.specs.Inside.Defining.{AnswersBy}
use Rattle.rdx_forms.specs.Reported.{earlier}

-- ---- what is refused

-- the names in the form
abbrev pub closure_names_refusal : Known → Sexp → ClosureParts → Option Refusal
closure_names_refusal K x c = first_refusal (closure_language_at K c ∷ name_taken_at K x ∷ bad_relation_at x ∷ [])

-- by all checks but the first ones, of a closure by a pattern: the names, the relation, and the pattern
abbrev pub context_parts_refusal : Known → Sexp → ClosureParts → Option Refusal
context_parts_refusal K x c =
    earlier
    (first_refusal (closure_language_at K c ∷ name_taken_at K x ∷ bad_relation_at x ∷ unknown_closed_at K c ∷ []))
    (pattern_refusal (closure_names K c) c.by)

-- of one by the contexts of a nonterminal: the names, the nonterminal, and the relation
abbrev pub compatible_parts_refusal : Known → Sexp → ClosureParts → Option Refusal
compatible_parts_refusal K x c =
    first_refusal (closure_language_at K c ∷ name_taken_at K x ∷ bad_relation_at x ∷ no_nonterminal_at (closure_names K c) c.by ∷ unknown_closed_at K c ∷ [])

-- of the list b, by its parts
abbrev pub contexts_refusal : Known → Sexp → Sexp → Option ClosureParts → Option Refusal
contexts_refusal K x b None = Some (unnamed Shape b)
contexts_refusal K x b (Some c) = context_parts_refusal K x c

abbrev pub crosses_refusal : Known → Sexp → Sexp → Option ClosureParts → Option Refusal
crosses_refusal K x b None = Some (unnamed Shape b)
crosses_refusal K x b (Some c) = compatible_parts_refusal K x c

-- ---- what is defined

-- the closure by the pattern
abbrev pub contexts_relation : Known → Sexp → Option ClosureParts → Option model.Relation
contexts_relation K x None = None
contexts_relation K x (Some c) =
    option_map (context_closure (reading (closure_names K c) position.Query c.by) (text_of x)) (closed_relation K c)

-- the closure by the contexts of the nonterminal
abbrev pub crosses_relation : Known → Sexp → Option ClosureParts → Option model.Relation
crosses_relation K x None = None
crosses_relation K x (Some c) = option_map (compatible_closure (text_of c.by) (text_of x)) (closed_relation K c)

-- ---- what is answered

-- to a form with the name x and the list b that says of which relation it is the closure by the contexts that a pattern matches
abbrev pub ClosesByContexts : Known → Sexp → Sexp → Result Relation DefFault → Type 0
ClosesByContexts K x b r = AnswersBy (contexts_refusal K x b (closure_parts b)) (contexts_relation K x (closure_parts b)) r

-- or by those of a nonterminal in itself
abbrev pub ClosesByCrosses : Known → Sexp → Sexp → Result Relation DefFault → Type 0
ClosesByCrosses K x b r =
    AnswersBy (crosses_refusal K x b (with_symbol (closure_parts b))) (crosses_relation K x (with_symbol (closure_parts b))) r

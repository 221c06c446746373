-- Forms that define a judgement, `(define-judgment-form L option ... rule ...)`: when they are refused, and what they define else.
use Rattle.std.specs.Prelude.{ℕ, List, [], ◌∷◌, Option, Some, None, option_map}
use Rattle.rdx_sexp.specs.Sexp.{Sexp}
use Rattle.rdx_lang.specs.Programs.{Judgement}
use Rattle.rdx_patterns.specs.Nonterminals.{names_of}
use Rattle.rdx_patterns.specs.Refusal.{Refusal, first_refusal}
use Rattle.rdx_defs.specs.JudgementForms.{JudgementForm, judgement_form, judgement_in}
use Rattle.rdx_defs.specs.JudgementReading.{judgement_reading}
use Rattle.rdx_defs.specs.JudgementStands.{judgement_stands}
use Rattle.rdx_parts.specs.StandChecks.{shape_at, repeated_name_at, bad_name_at, bad_place_at, depth_fault_at, unknown_name_at, undriven_at, escape_at, mode_fault_at}
use Rattle.rdx_parts.specs.Stands.{Stand}
use Rattle.rdx_forms.specs.Known.{Known}
use Rattle.rdx_forms.specs.LanguageForms.{named_base, unknown_at}
use Rattle.rdx_forms.specs.MetafunctionForms.{function_taken_at}

-- the name of the language that a form with these parts names
abbrev pub form_language : Option JudgementForm → Option Sexp
form_language f = option_map (λ f. f.language) f

-- the name that its judgement goes by
abbrev pub form_name : Option JudgementForm → Option Sexp
form_name None = None
form_name (Some f) = judgement_in f

-- the nonterminals of the language that it names
abbrev pub form_names : Known → Option JudgementForm → List (List ℕ)
form_names K f = names_of (named_base K (form_language f))

-- the refusal of the form d with these parts, in which these stand, over the nonterminals ns of its language
abbrev pub judgement_refusal_over : Known → Sexp → Option JudgementForm → List (List ℕ) → List Stand → Option Refusal
judgement_refusal_over K d f ns ss =
    first_refusal
    (shape_at ss  -- S1
    ∷ unknown_at K (form_language f)  -- S2
    ∷ function_taken_at K (form_name f)  -- S3
    ∷ repeated_name_at ss  -- S3
    ∷ bad_name_at ss  -- S4
    ∷ bad_place_at K.scope ns ss  -- S5
    ∷ depth_fault_at K.scope ns ss  -- S6
    ∷ unknown_name_at K.scope ss  -- S8
    ∷ undriven_at K.scope ss  -- S9
    ∷ escape_at K.scope ss  -- S10
    ∷ mode_fault_at ss  -- S11
    ∷ [])

-- the refusal of the form d with these parts
abbrev pub judgement_refusal_by : Known → Sexp → Option JudgementForm → Option Refusal
judgement_refusal_by K d f = judgement_refusal_over K d f (form_names K f) (judgement_stands K.scope (form_names K f) d f)

-- the refusal of `(define-judgment-form ...)`
abbrev pub define_judgement_refusal : Known → Sexp → Option Refusal
define_judgement_refusal K d = judgement_refusal_by K d (judgement_form d)

-- the judgement that a form with these parts defines
abbrev pub judgement_by : Known → Option JudgementForm → Option Judgement
judgement_by K f = option_map (judgement_reading K.scope (form_names K f)) f

-- the judgement that the form defines, if it has its parts
abbrev pub defined_judgement : Known → Sexp → Option Judgement
defined_judgement K d = judgement_by K (judgement_form d)

-- Forms that define a metafunction, `(define-metafunction L [f : p ... -> p] clause ...)`: when they are refused, and what they define else.
use Rattle.std.specs.Prelude.{ℕ, List, [], ◌∷◌, Option, Some, None, option_map}
use Rattle.rdx_sexp.specs.Sexp.{Sexp}
use Rattle.rdx_lang.specs.Programs.{Metafunction}
use Rattle.rdx_patterns.specs.Nonterminals.{names_of}
use Rattle.rdx_patterns.specs.Refusal.{Refusal, first_refusal}
use Rattle.rdx_defs.specs.MetafunctionForms.{MetafunctionForm, metafunction_form, function_in}
use Rattle.rdx_defs.specs.MetafunctionReading.{metafunction_reading}
use Rattle.rdx_defs.specs.MetafunctionStands.{metafunction_stands}
use Rattle.rdx_parts.specs.StandChecks.{shape_at, bad_name_at, bad_place_at, depth_fault_at, undriven_at, escape_at, unknown_name_at, mode_fault_at}
use Rattle.rdx_parts.specs.Stands.{Stand}
use Rattle.rdx_forms.specs.Known.{Known}
use Rattle.rdx_forms.specs.LanguageForms.{named_base, unknown_at, name_taken_at}

-- the name of the language that a form with these parts names
abbrev pub function_language : Option MetafunctionForm → Option Sexp
function_language m = option_map (λ f. f.language) m

-- the name that its metafunction goes by
abbrev pub function_name : Option MetafunctionForm → Option Sexp
function_name None = None
function_name (Some m) = function_in m

-- S3: an earlier form has that name
abbrev pub function_taken_at : Known → Option Sexp → Option Refusal
function_taken_at K None = None
function_taken_at K (Some f) = name_taken_at K f

-- the nonterminals of the language that it names
abbrev pub function_names : Known → Option MetafunctionForm → List (List ℕ)
function_names K m = names_of (named_base K (function_language m))

-- the refusal of the form d with these parts, in which these stand, over the nonterminals ns of its language
abbrev pub function_refusal_over : Known → Sexp → Option MetafunctionForm → List (List ℕ) → List Stand → Option Refusal
function_refusal_over K d m ns ss =
    first_refusal
    (shape_at ss  -- S1
    ∷ unknown_at K (function_language m)  -- S2
    ∷ function_taken_at K (function_name m)  -- S3
    ∷ bad_name_at ss  -- S4
    ∷ bad_place_at K.scope ns ss  -- S5
    ∷ depth_fault_at K.scope ns ss  -- S6
    ∷ unknown_name_at K.scope ss  -- S8
    ∷ undriven_at K.scope ss  -- S9
    ∷ escape_at K.scope ss  -- S10
    ∷ mode_fault_at ss  -- S11
    ∷ [])

-- the refusal of the form d with these parts
abbrev pub function_refusal_by : Known → Sexp → Option MetafunctionForm → Option Refusal
function_refusal_by K d m = function_refusal_over K d m (function_names K m) (metafunction_stands K.scope (function_names K m) d m)

-- the refusal of `(define-metafunction ...)`
abbrev pub function_refusal : Known → Sexp → Option Refusal
function_refusal K d = function_refusal_by K d (metafunction_form d)

-- the metafunction that a form with these parts defines
abbrev pub function_by : Known → Option MetafunctionForm → Option Metafunction
function_by K m = option_map (metafunction_reading K.scope (function_names K m)) m

-- the metafunction that the form defines, if it has its parts
abbrev pub defined_function : Known → Sexp → Option Metafunction
defined_function K d = function_by K (metafunction_form d)

-- Forms that define languages: when they are refused, and what they define else.
use Rattle.std.specs.Prelude.{List, [], ◌∷◌, Option, Some, None, option_map, if◌then◌else◌}
use Rattle.rdx_sexp.specs.Sexp.{Sexp}
use Rattle.rdx_lang.specs.Patterns.{Language}
use Rattle.rdx_grammar.specs.Forms.{GrammarForm, language_form, extension_form}
use Rattle.rdx_grammar.specs.Languages.{empty_language, language_over}
use Rattle.rdx_grammar.specs.Stands.{form_stands}
use Rattle.rdx_patterns.specs.Parts.{parts, text_of}
use Rattle.rdx_patterns.specs.Refusal.{Refusal, named, first_refusal}
use Rattle.rdx_grammar.specs.Refused.{shape_at, duplicate_at, bad_name_at, bad_pattern_at, depth_clash_at, escape_at, names_over}
use Rattle.rdx_patterns.specs.declared.shape.fault.DefKind.TheVariants.{UnknownLanguage, Duplicate}
use Rattle.rdx_lang.specs.Programs.{language_named}
use Rattle.rdx_forms.specs.Known.{Known, is_taken, or_empty}

-- ---- the language that an extension names

-- the third of these parts
abbrev pub base_among : Option (List Sexp) → Option Sexp
base_among (Some (h ∷ l ∷ l0 ∷ ds)) = Some l0
base_among o = None

-- L0 of `(define-extended-language L L0 def ...)`
abbrev pub base_name : Sexp → Option Sexp
base_name d = base_among (parts d)

-- the language of this name; one without nonterminals where no form defines it, or where no name stands
abbrev pub named_base : Known → Option Sexp → Language
named_base K None = empty_language
named_base K (Some l) = or_empty (language_named K.program (text_of l))

-- ---- check by check

-- the name l, where no language was found by it
abbrev pub unknown_by : Option Language → Sexp → Option Refusal
unknown_by None l = Some (named UnknownLanguage l)
unknown_by (Some L) l = None

-- S2: the name, where one stands, is that of no language
abbrev pub unknown_at : Known → Option Sexp → Option Refusal
unknown_at K None = None
unknown_at K (Some l) = unknown_by (language_named K.program (text_of l)) l

-- S3: the name that a form defines is that of an earlier one
abbrev pub name_taken_at : Known → Sexp → Option Refusal
name_taken_at K x = if is_taken K (text_of x) then Some (named Duplicate x) else None

-- S3: the name of the form is
abbrev pub taken_at : Known → Option GrammarForm → Option Refusal
taken_at K None = None
taken_at K (Some g) = name_taken_at K g.name

-- ---- all checks but that of left recursion, and the one behind it

-- the refusal of a form with these parts that defines a language over a base; l0 is the name of the base, where the form extends one
abbrev pub language_refusal : Known → Language → Option Sexp → Sexp → Option GrammarForm → Option Refusal
language_refusal K base l0 d g =
    first_refusal
    (shape_at (form_stands d g)  -- S1
    ∷ unknown_at K l0  -- S2
    ∷ taken_at K g  -- S3
    ∷ duplicate_at (form_stands d g)  -- S3
    ∷ bad_name_at (form_stands d g)  -- S4
    ∷ bad_pattern_at base (names_over base g) (form_stands d g)  -- S5
    ∷ depth_clash_at (names_over base g) (form_stands d g)  -- S6
    ∷ [])

-- S10, which comes behind S7: a list in a pattern would ask Racket
abbrev pub language_escape : Sexp → Option GrammarForm → Option Refusal
language_escape d g = escape_at (form_stands d g)

-- ---- languages by themselves

-- the refusal of `(define-language L def ...)`
abbrev pub plain_refusal : Known → Sexp → Option Refusal
plain_refusal K d = language_refusal K empty_language None d (language_form d)

-- the language that it defines, if it has the parts
abbrev pub plain_language : Sexp → Option Language
plain_language d = option_map (language_over empty_language) (language_form d)

-- ---- extensions, over the language that they name

-- the refusal of `(define-extended-language L L0 def ...)`
abbrev pub extension_refusal : Known → Sexp → Option Refusal
extension_refusal K d = language_refusal K (named_base K (base_name d)) (base_name d) d (extension_form d)

-- the language that it defines, if it has the parts
abbrev pub extended_language : Known → Sexp → Option Language
extended_language K d = option_map (language_over (named_base K (base_name d))) (extension_form d)

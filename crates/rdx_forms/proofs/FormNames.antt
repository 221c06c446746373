-- The names in forms that define languages.
use Rattle.std.proofs.Common.{◌≡◌, ℕ, Bool, true, false, List, [], ◌∷◌, Option, Some, None, ◌∙◌, refl, ap, Result, Ok, Err, sym}
use Rattle.std.specs.Prelude.{codes, if◌then◌else◌, option_map}
use Rattle.rdx_sexp.specs.Sexp.{Sexp}
use Rattle.rdx_lang.specs.Patterns.{Language}
use Rattle.rdx_lang.specs.declared.checked.CheckedLang.{CheckedLang}
use Rattle.rdx_grammar.specs.Forms.{GrammarForm, form_parts, language_parts, extension_parts, language_form, extension_form}
use Rattle.rdx_grammar.specs.Languages.{empty_language, language_over}
use Rattle.rdx_patterns.specs.Parts.{parts, text_of, is_word, is_symbol}
use Rattle.rdx_patterns.specs.declared.shape.fault.DefFault.{DefFault}
use Rattle.rdx_patterns.specs.declared.shape.fault.DefFault.TheVariants.{Refused, NoMemory}
use Rattle.rdx_forms.specs.Definitions.{language}
use Rattle.rdx_forms.specs.OneForm.{IsRefusedForm, by_check, by_recursion, by_late_check}
use Rattle.rdx_forms.specs.FormKinds.{defines, form_kind}
use Rattle.rdx_forms.specs.FormKinds as kind
use Rattle.rdx_forms.specs.Forms.{form_refusal, refusal_by_kind, late_refusal, late_refusal_by_kind, form_definition, definition_by_kind}
use Rattle.rdx_forms.specs.Inside.Defining.{language_by_check, language_by_recursion, language_by_escape, DefinesOver, IsNamed}
use Rattle.rdx_forms.specs.Answers.{DefinesBy}
use Rattle.rdx_forms.specs.Inside.PartViews.{second_among}
use Rattle.rdx_lang.specs.Programs.{language_named}
use Rattle.rdx_forms.specs.Known.{Known, or_empty}
use Rattle.rdx_forms.specs.LanguageForms.{base_among, base_name, named_base, unknown_at, unknown_by, language_refusal, language_escape, plain_refusal, plain_language, extension_refusal, extended_language}
use Rattle.rdx_forms.specs.BindingParts.{grammar_part, binding_refusal}
use Rattle.rdx_forms.specs.Reported.{earlier}
use Rattle.rdx_forms.proofs.CheckNumbers.{earlier_none}
use Rattle.rdx_forms.proofs.GrammarParts.{part-unrefused}
use Rattle.rdx_grammar.specs.Refused.{recursion_at}
use Rattle.rdx_patterns.specs.Refusal.{Refusal, unnamed}
use Rattle.rdx_patterns.specs.declared.shape.fault.DefKind.TheVariants.{Shape}

-- ---- the name of the language that is defined

by_test : (b c : Bool) (x g : GrammarForm) → (if b then (if c then Some x else None) else None) ≡ Some g → x ≡ g
by_test true true x g e = cc
by_test true false x g e = absurd cc
by_test false c x g e = absurd cc

by_tests : (b c d : Bool) (x g : GrammarForm) → (if b then (if c then (if d then Some x else None) else None) else None) ≡ Some g → x ≡ g
by_tests true c d x g e = by_test c d x g e
by_tests false c d x g e = absurd cc

no_test : (b : Bool) (g : GrammarForm) → (let o : Option GrammarForm = if b then None else None in o) ≡ Some g → ⊥
no_test true g e = absurd cc
no_test false g e = absurd cc

named_language : (head : List ℕ) (o : Option (List Sexp)) (g : GrammarForm) → form_parts head language_parts o ≡ Some g → second_among o ≡ Some g.name
named_language head None g e = absurd cc
named_language head (Some []) g e = absurd cc
named_language head (Some (h ∷ [])) g e = absurd (no_test (is_word head h) g e)
named_language head (Some (h ∷ l ∷ ds)) g e =
    ap (λ (f : GrammarForm). Some f.name) (by_test (is_word head h) (is_symbol l) (record { name = l; definitions = ds }) g e)

-- the second of the parts of such a form is its name
named_extension : (head : List ℕ) (o : Option (List Sexp)) (g : GrammarForm) → form_parts head extension_parts o ≡ Some g → second_among o ≡ Some g.name
named_extension head None g e = absurd cc
named_extension head (Some []) g e = absurd cc
named_extension head (Some (h ∷ [])) g e = absurd (no_test (is_word head h) g e)
named_extension head (Some (h ∷ l ∷ [])) g e = absurd (no_test (is_word head h) g e)
named_extension head (Some (h ∷ l ∷ l0 ∷ ds)) g e =
    ap (λ (f : GrammarForm). Some f.name) (by_tests (is_word head h) (is_symbol l) (is_symbol l0) (record { name = l; definitions = ds }) g e)

-- the name of a `define-language` form
pub language_form-named : (d : Sexp) → IsNamed d (language_form d)
language_form-named d g e = named_language (codes "define-language") (parts d) g e

-- the name of a `define-extended-language` form
pub extension_form-named : (d : Sexp) → IsNamed d (extension_form d)
extension_form-named d g e = named_extension (codes "define-extended-language") (parts d) g e

-- ---- the language that is extended

-- a language that is known is the base
pub named_base-known : (K : Known) (l : Sexp) (L : Language) → language_named K.program (text_of l) ≡ Some L → named_base K (Some l) ≡ L
named_base-known K l L e = ap or_empty e

-- and the check of unknown languages lets it pass
pub unknown_at-known : (K : Known) (l : Sexp) (L : Language) → language_named K.program (text_of l) ≡ Some L → unknown_at K (Some l) ≡ None
unknown_at-known K l L e = ap (λ o. unknown_by o l) e

-- ---- forms by their kinds

-- what the parts of a form say of the form, which has no binding forms
by_parts : (K : Known) (base : Language) (l0 : Option Sexp) (d : Sexp) (g : Option GrammarForm) (x : Result CheckedLang DefFault) → grammar_part d ≡ d → form_refusal K d ≡ language_refusal K base l0 d g → form_definition K d ≡ option_map language (option_map (language_over base) g) → late_refusal d ≡ language_escape d g → DefinesOver K base l0 d g x → DefinesBy K d x
by_parts K base l0 d g (Ok c) p e f l a = record {
  passes = e ∙ a.passes;
  means = f ∙ ap (option_map language) a.means;
  sound = a.free;
  passes_late = l ∙ a.passes_late;
}
by_parts K base l0 d g (Err NoMemory) p e f l a = tt
by_parts K base l0 d g (Err (Refused r)) p e f l (language_by_check h) = by_check (e ∙ h)
by_parts K base l0 d g (Err (Refused r)) p e f l (language_by_recursion L x h k i j) =
    by_recursion L x (e ∙ h) (f ∙ ap (option_map language) k) i (j ∙ ap (λ c. recursion_at c x) (sym p))
by_parts K base l0 d g (Err (Refused r)) p e f l (language_by_escape L h k i j) =
    by_late_check (language L) (e ∙ h) (f ∙ ap (option_map language) k) i (l ∙ j)

-- the refusal of a form without binding forms is that of what it is without them
unbound : (refusal : Sexp → Option Refusal) (d : Sexp) → grammar_part d ≡ d → earlier (refusal (grammar_part d)) (binding_refusal d) ≡ refusal d
unbound refusal d p =
    (λ i. earlier (refusal (p i)) ((ap binding_refusal (sym p) ∙ part-unrefused d) i)) ∙ earlier_none (refusal d)

-- what is said of its parts is said of a `define-language` form
pub by_language : (K : Known) (d : Sexp) (x : Result CheckedLang DefFault) → grammar_part d ≡ d → form_kind d ≡ defines kind.language → DefinesOver K empty_language None d (language_form d) x → DefinesBy K d x
by_language K d x p e a =
    by_parts K empty_language None d (language_form d) x p
    (ap (refusal_by_kind K d) e ∙ unbound (plain_refusal K) d p)
    (ap (definition_by_kind K d) e ∙ ap (λ c. option_map language (plain_language c)) p)
    (ap (late_refusal_by_kind d) e ∙ ap (λ c. language_escape c (language_form c)) p) a

-- what is said of its parts, over the base that it names, is said of a `define-extended-language` form
pub by_extension : (K : Known) (base : Language) (l0 : Option Sexp) (d : Sexp) (x : Result CheckedLang DefFault) → grammar_part d ≡ d → form_kind d ≡ defines kind.extension → base_name d ≡ l0 → named_base K l0 ≡ base → DefinesOver K base l0 d (extension_form d) x → DefinesBy K d x
by_extension K base l0 d x p e f h a =
    by_parts K base l0 d (extension_form d) x p
    (ap (refusal_by_kind K d) e ∙ unbound (extension_refusal K) d p ∙ λ i. language_refusal K ((ap (named_base K) f ∙ h) i) (f i) d (extension_form d))
    (ap (definition_by_kind K d) e ∙ ap (λ c. option_map language (extended_language K c)) p
    ∙ λ i. option_map language (option_map (language_over ((ap (named_base K) f ∙ h) i)) (extension_form d)))
    (ap (late_refusal_by_kind d) e ∙ ap (λ c. language_escape c (extension_form c)) p) a

-- ---- an extension without the name of a language

either_none : (b : Bool) → (let o : Option GrammarForm = if b then None else None in o) ≡ None
either_none true = refl
either_none false = refl

-- has not the parts of an extension
no_extension : (head : List ℕ) (o : Option (List Sexp)) → base_among o ≡ None → form_parts head extension_parts o ≡ None
no_extension head None e = refl
no_extension head (Some []) e = refl
no_extension head (Some (h ∷ [])) e = either_none (is_word head h)
no_extension head (Some (h ∷ l ∷ [])) e = either_none (is_word head h)
no_extension head (Some (h ∷ l ∷ l0 ∷ ds)) e = absurd cc

-- and is refused as one that has not its shape
pub without_base : (K : Known) (d : Sexp) (r : Refusal) → form_kind d ≡ defines kind.extension → grammar_part d ≡ d → base_name d ≡ None
    → r ≡ unnamed Shape d → IsRefusedForm K d r
without_base K d r e p n m =
    by_check
    (ap (refusal_by_kind K d) e ∙ unbound (extension_refusal K) d p
    ∙ ap (λ g. language_refusal K (named_base K (base_name d)) (base_name d) d g) (no_extension (codes "define-extended-language") (parts d) n) ∙ ap Some (sym m))

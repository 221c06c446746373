-- What is answered to a form that defines something.
use Rattle.std.specs.Prelude.{◌≡◌, [], ◌∷◌, Option, Some, None, option_map, Result, Ok, Err}
use Rattle.rdx_sexp.specs.Sexp.{Sexp}
use Rattle.rdx_lang.specs.Checked.{language_in}
use Rattle.rdx_lang.specs.Edges.{IsFree, IsFirstRecursive}
use Rattle.rdx_lang.specs.Patterns.{Language}
use Rattle.rdx_lang.specs.Programs as model
use Rattle.rdx_lang.specs.ProgramView.{relation_of}
use Rattle.rdx_lang.specs.declared.checked.CheckedLang.{CheckedLang}
use Rattle.rdx_lang.specs.declared.pattern.Ref.{Ref}
use Rattle.rdx_lang.specs.declared.program.Relation.{Relation}
use Rattle.rdx_relations.specs.RelationForms.{relation_form}
use Rattle.rdx_relations.specs.RelationReading.{relation_reading}
use Rattle.rdx_relations.specs.RelationRefusal.{relation_refusal}
use Rattle.rdx_patterns.specs.Nonterminals.{names_of}
use Rattle.rdx_grammar.specs.Forms.{GrammarForm}
use Rattle.rdx_grammar.specs.Languages.{language_over}
use Rattle.rdx_patterns.specs.Parts.{text_of}
use Rattle.rdx_patterns.specs.Refusal.{Refusal, refusal_of, first_refusal}
use Rattle.rdx_grammar.specs.Refused.{recursion_at}
use Rattle.rdx_patterns.specs.declared.shape.fault.DefFault.{DefFault}
use Rattle.rdx_patterns.specs.declared.shape.fault.DefFault.TheVariants.{Refused, NoMemory}
use Rattle.rdx_forms.specs.Known.{Known}
use Rattle.rdx_forms.specs.LanguageForms.{language_refusal, language_escape, named_base, unknown_at, name_taken_at}
use Rattle.rdx_forms.specs.RelationForms.{bad_relation_at}
use Rattle.rdx_forms.specs.Reported.{earlier}
use Rattle.rdx_forms.specs.Faults.{IsFaultAt}
use Rattle.rdx_forms.specs.Inside.PartViews.{second_item, language_item}

-- ---- by all checks

-- a form with these parts is accepted, and defines the language L
pub record IsDefined (K : Known) (base : Language) (l0 : Option Sexp) (d : Sexp) (g : Option GrammarForm) (L : Language) : Type 0 where
  pub passes : language_refusal K base l0 d g ≡ None
  pub means : option_map (language_over base) g ≡ Some L
  pub free : IsFree L
  pub passes_late : language_escape d g ≡ None

-- a form with these parts is refused
pub data IsRefusedLanguage (K : Known) (base : Language) (l0 : Option Sexp) (d : Sexp) (g : Option GrammarForm) (r : Refusal) : Type 0 where
  language_by_check : language_refusal K base l0 d g ≡ Some r → IsRefusedLanguage K base l0 d g r
  language_by_recursion : (L : Language) (x : Ref) → language_refusal K base l0 d g ≡ None → option_map (language_over base) g ≡ Some L → IsFirstRecursive L x → r ≡ recursion_at d x → IsRefusedLanguage K base l0 d g r
  language_by_escape : (L : Language) → language_refusal K base l0 d g ≡ None → option_map (language_over base) g ≡ Some L → IsFree L → language_escape d g ≡ Some r → IsRefusedLanguage K base l0 d g r

-- the form is refused so, unless memory ran out
abbrev pub IsLanguageFault : Known → Language → Option Sexp → Sexp → Option GrammarForm → DefFault → Type 0
IsLanguageFault K base l0 d g (Refused r) = IsRefusedLanguage K base l0 d g (refusal_of r)
IsLanguageFault K base l0 d g NoMemory = Unit {0}

-- the answer to a form with these parts
abbrev pub DefinesOver : Known → Language → Option Sexp → Sexp → Option GrammarForm → Result CheckedLang DefFault → Type 0
DefinesOver K base l0 d g (Ok c) = IsDefined K base l0 d g (language_in c)
DefinesOver K base l0 d g (Err e) = IsLanguageFault K base l0 d g e

-- ---- relations, where nothing stands behind the parts

-- the answer is a fault by this refusal, where there is one, and else this relation
abbrev pub AnswersBy : Option Refusal → Option model.Relation → Result Relation DefFault → Type 0
AnswersBy o m (Ok r) = (o ≡ None) × (m ≡ Some (relation_of r))
AnswersBy o m (Err e) = IsFaultAt o e

-- the refusal of a form by cases with such parts, by all checks but the first ones
abbrev pub parts_refusal : Known → Sexp → Sexp → Option Refusal
parts_refusal K x body =
    earlier
    (first_refusal (unknown_at K (language_item body) ∷ name_taken_at K x ∷ bad_relation_at x ∷ []))
    (relation_refusal K.scope (names_of (named_base K (language_item body))) body)

-- the relation that it defines, if the list has its parts
abbrev pub parts_relation : Known → Sexp → Sexp → Option model.Relation
parts_relation K x body = option_map (relation_reading K.scope (names_of (named_base K (language_item body))) (text_of x)) (relation_form body)

-- the answer to such a form that gives cases
abbrev pub RelatesOver : Known → Sexp → Sexp → Result Relation DefFault → Type 0
RelatesOver K x body y = AnswersBy (parts_refusal K x body) (parts_relation K x body) y

-- ---- the name

-- where these are the parts of a form, its second item is the name
abbrev pub IsNamed : Sexp → Option GrammarForm → Type 0
IsNamed d g = (h : GrammarForm) → g ≡ Some h → second_item d ≡ Some h.name

-- S3: an earlier form has the name, where one stands
abbrev pub taken_at_item : Known → Option Sexp → Option Refusal
taken_at_item K None = None
taken_at_item K (Some x) = name_taken_at K x

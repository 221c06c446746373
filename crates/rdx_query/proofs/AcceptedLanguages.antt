-- The languages of a file that is accepted are well formed, and free of left recursion.
use Rattle.std.proofs.Common.{◌≡◌, ◌<◌, ℕ, inl, inr, List, [], ◌∷◌, Option, Some, None, refl, sym, subst, arith}
use Rattle.std.specs.Prelude.{option_map}
use Rattle.rdx_sexp.specs.Sexp.{Sexp, sexps}
use Rattle.rdx_sexp.specs.Size.{sexp_depth, sexps_depth, IsSpelledSexp, AreSpelled, AreFileData}
use Rattle.rdx_lang.proofs.Collecting.{only}
use Rattle.rdx_lang.proofs.MemberLaws.{in-append}
use Rattle.rdx_lang.proofs.WellFormedCrosses.{crosses_well_formed}
use Rattle.rdx_lang.specs.Members.{In}
use Rattle.rdx_lang.specs.Patterns.{Language}
use Rattle.rdx_lang.specs.Programs.{Program, language_among}
use Rattle.rdx_lang.specs.WellFormed.{IsWellFormed}
use Rattle.rdx_patterns.proofs.Firsts.{none_or}
use Rattle.rdx_grammar.proofs.ShallowParts.{AreShallowIn-language, AreShallowIn-extension}
use Rattle.rdx_grammar.proofs.SpelledParts.{AreSpelledIn-language, AreSpelledIn-extension}
use Rattle.rdx_grammar.proofs.WellFormedForms.{IsWellFormed-language_over}
use Rattle.rdx_patterns.specs.Ends.{known_ends, crossed_for}
use Rattle.rdx_grammar.specs.Forms.{GrammarForm, language_form, extension_form}
use Rattle.rdx_grammar.specs.Inside.CheckedForms.{AreSpelledIn, AreShallowIn}
use Rattle.rdx_grammar.specs.Languages.{empty_language, language_over}
use Rattle.rdx_patterns.specs.Nonterminals.{names_of}
use Rattle.rdx_patterns.specs.Parts.{text_of}
use Rattle.rdx_patterns.specs.Readable.{IsReadable}
use Rattle.rdx_patterns.specs.Refusal.{or_else}
use Rattle.rdx_grammar.specs.Refused.{shape_at, refusal_over}
use Rattle.rdx_grammar.specs.Stands.{form_stands}
use Rattle.rdx_eval.specs.Laws.{AreFree}
use Rattle.rdx_answer.specs.Queries.{Query}
use Rattle.rdx_forms.specs.BindingParts.{binding_refusal, grammar_part}
use Rattle.rdx_forms.specs.DefineForms.{defined_relation}
use Rattle.rdx_forms.specs.Definitions.{Defined, language, metafunction, judgement, relation}
use Rattle.rdx_forms.specs.OneForm.{Defines}
use Rattle.rdx_query.specs.File.{Accepts, accepts_none, accepts_definition, accepts_query, accepts_passed, IsFile}
use Rattle.rdx_forms.specs.Before.{known_before}
use Rattle.rdx_forms.specs.FormKinds as kind
use Rattle.rdx_forms.specs.FormKinds.{FormKind, defines, asks, passes, form_kind}
use Rattle.rdx_forms.specs.Forms.{definition_by_kind, refusal_by_kind}
use Rattle.rdx_forms.specs.JudgementForms.{defined_judgement}
use Rattle.rdx_forms.specs.Known.{Known, with_definition, or_empty}
use Rattle.rdx_forms.specs.LanguageForms.{base_name, named_base, unknown_at, taken_at, language_refusal, plain_refusal, plain_language, extension_refusal, extended_language}
use Rattle.rdx_forms.specs.MetafunctionForms.{defined_function}
use Rattle.rdx_query.proofs.AskedNames.{fit-before, can_answer}
use Rattle.rdx_query.proofs.DefinedJudgements.{mapped-some}
use Rattle.rdx_forms.proofs.FoundByName.{language-among}
use Rattle.rdx_forms.proofs.GrammarParts.{part-readable}
use Rattle.rdx_query.proofs.Reported.{none-reported}

-- each of these languages is well formed
abbrev AreWellFormed : List Language → Type 0
AreWellFormed Ls = (L : Language) → In L Ls → IsWellFormed L

-- ---- the language that an extension names

-- one that is found by its name is well formed, and so is none
found-formed : (Ls : List Language) (x : List ℕ) → AreWellFormed Ls → (o : Option Language) → language_among Ls x ≡ o → IsWellFormed (or_empty o)
found-formed Ls x w None e = record { distinct = refl; well_formed = refl }
found-formed Ls x w (Some L) e = w L (language-among Ls x L e)

base-formed : (K : Known) (o : Option Sexp) → AreWellFormed K.program.languages → IsWellFormed (named_base K o)
base-formed K None w = record { distinct = refl; well_formed = refl }
base-formed K (Some l) w = found-formed K.program.languages (text_of l) w (language_among K.program.languages (text_of l)) refl

-- ---- what a form defines

-- where no check refuses a form, none does that looks at the form alone
passed-alone : (K : Known) (base : Language) (l0 : Option Sexp) (d : Sexp) (o : Option GrammarForm) → language_refusal K base l0 d o ≡ None
    → refusal_over base d o ≡ None
passed-alone K base l0 d o e =
    let b = none_or (shape_at (form_stands d o)) _ e in
    let c = none_or (unknown_at K l0) _ b.1 in
    let f = none_or (taken_at K o) _ c.1 in
    λ i. or_else (b.0 i) (f.1 i)

-- the language of a form over a base
form-formed : (K : Known) (base : Language) (l0 : Option Sexp) (d : Sexp) (o : Option GrammarForm) (L : Language) → IsWellFormed base → AreSpelledIn o
    → AreShallowIn o → language_refusal K base l0 d o ≡ None → option_map (language_over base) o ≡ Some L → IsWellFormed L
form-formed K base l0 d None L w s h p e = absurd cc
form-formed K base l0 d (Some g) L w s h p e =
    let f : language_over base g ≡ L = cc in
    subst IsWellFormed f (IsWellFormed-language_over base d g w s h (passed-alone K base l0 d (Some g) p))

-- what is defined is well formed, where it is a language
abbrev IsFormed : Defined → Type 0
IsFormed (language L) = IsWellFormed L
IsFormed (metafunction F) = Unit {0}
IsFormed (judgement J) = Unit {0}
IsFormed (relation R) = Unit {0}

module _ (K : Known) (w : AreWellFormed K.program.languages) (d : Sexp) (shallow : sexp_depth d < 4294967296) (spelled : IsSpelledSexp d) where
  -- its part without binding forms can be read
  readable : IsReadable (grammar_part d)
  readable = part-readable d (record { nested = shallow; spelled = spelled })

  -- by what the form does
  by_kind : (k : FormKind) (x : Defined) → refusal_by_kind K d k ≡ None → definition_by_kind K d k ≡ Some x → IsFormed x
  by_kind (asks k) x p m = absurd cc
  by_kind (passes k) x p m = absurd cc
  by_kind (defines kind.language) x p m =
      let c = grammar_part d in
      let q = (none-reported (plain_refusal K c) (binding_refusal d) p).0 in
      mapped-some language (plain_language c) x m IsFormed
      (λ L e.
      form-formed K empty_language None c (language_form c) L (record { distinct = refl; well_formed = refl }) (AreSpelledIn-language c readable.spelled)
      (AreShallowIn-language c readable.nested) q e)
  by_kind (defines kind.extension) x p m =
      let c = grammar_part d in
      let q = (none-reported (extension_refusal K c) (binding_refusal d) p).0 in
      mapped-some language (extended_language K c) x m IsFormed
      (λ L e.
      form-formed K (named_base K (base_name c)) (base_name c) c (extension_form c) L (base-formed K (base_name c) w)
      (AreSpelledIn-extension c readable.spelled) (AreShallowIn-extension c readable.nested) q e)
  by_kind (defines kind.metafunction) x p m = mapped-some metafunction (defined_function K d) x m IsFormed (λ F e. tt)
  by_kind (defines kind.judgement) x p m = mapped-some judgement (defined_judgement K d) x m IsFormed (λ J e. tt)
  by_kind (defines kind.relation) x p m = mapped-some relation (defined_relation K d) x m IsFormed (λ R e. tt)

  -- of a form that is accepted
  defines-formed : (x : Defined) → Defines K d x → IsFormed x
  defines-formed x a = by_kind (form_kind d) x a.passes a.means

-- ---- all that is known

-- with one definition more: a language stays well formed with the cross nonterminals that it is given
formed-more : (K : Known) (x : Defined) → AreWellFormed K.program.languages → IsFormed x → AreWellFormed (with_definition K x).program.languages
formed-more K (language L) w f N i = elim (in-append K.program.languages (crossed_for K.ends L ∷ []) N i) [
  | inl j ↦ w N j
  | inr j ↦ subst IsWellFormed (sym (only j)) (crosses_well_formed L (known_ends (names_of L) K.ends) f)
]
formed-more K (metafunction F) w f N i = w N i
formed-more K (judgement J) w f N i = w N i
formed-more K (relation R) w f N i = w N i

-- behind forms that are accepted
formed-behind : (K : Known) (ds : List Sexp) (J : Known) (qs : List Query) → Accepts K ds J qs → sexps_depth (sexps ds) < 4294967296
    → AreSpelled (sexps ds) → AreWellFormed K.program.languages → AreWellFormed J.program.languages
formed-behind K [] J qs accepts_none h s w = w
formed-behind K (d ∷ ds) J qs (accepts_definition {x} a more) h s w =
    formed-behind (with_definition K x) ds J qs more (omega (arith, h)) s.1 (formed-more K x w (defines-formed K w d (omega (arith, h)) s.0 x a))
formed-behind K (d ∷ ds) J qs (accepts_query {qs = rs} a more) h s w = formed-behind K ds J rs more (omega (arith, h)) s.1 w
formed-behind K (d ∷ ds) J qs (accepts_passed a more) h s w = formed-behind K ds J qs more (omega (arith, h)) s.1 w

-- ---- files

-- each language of the program is well formed
pub accepted_languages-formed : (ds : List Sexp) (P : Program) (qs : List Query) (L : Language) → AreFileData ds → IsFile ds P qs → In L P.languages
    → IsWellFormed L
accepted_languages-formed ds P qs L z a =
    let depth = z.depth in
    formed-behind (known_before ds) ds (record (known_before ds) { program = P }) qs a (omega (arith, depth)) z.spelled (λ M i. elim i [ ]) L

-- and free of left recursion, whatever the size of the data
pub accepted_languages-free : (ds : List Sexp) (P : Program) (qs : List Query) → IsFile ds P qs → AreFree P
accepted_languages-free ds P qs a = (can_answer (known_before ds) ds (record (known_before ds) { program = P }) qs (fit-before ds) a).fit.free

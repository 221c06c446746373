-- Which check refuses a form that defines a judgement.
use Rattle.std.proofs.Common.{◌≡◌, ℕ, Bool, true, false, List, [], ◌∷◌, Option, Some, None, Result, Ok, Err, refl, sym, ◌∙◌, ap, subst, arith, if◌then◌else◌}
use Rattle.std.specs.Prelude.{◌&&◌, codes, option_map, is_some}
use Rattle.rdx_sexp.specs.Sexp.{Sexp}
use Rattle.rdx_lang.specs.ProgramView.{judgement_of}
use Rattle.rdx_lang.specs.Programs.{language_named}
use Rattle.rdx_lang.specs.declared.program.Judgement.{Judgement}
use Rattle.rdx_patterns.specs.Nonterminals.{names_of}
use Rattle.rdx_patterns.specs.Parts.{parts, is_symbol, is_word}
use Rattle.rdx_patterns.specs.Refusal.{Refusal, refusal_of, unnamed, or_else, first_refusal}
use Rattle.rdx_patterns.specs.declared.shape.fault.DefFault.{DefFault}
use Rattle.rdx_patterns.specs.declared.shape.fault.DefFault.TheVariants.{Refused, NoMemory}
use Rattle.rdx_patterns.specs.declared.shape.fault.DefKind.TheVariants.{Shape}
use Rattle.rdx_patterns.specs.declared.shape.fault.DefRefusal.{DefRefusal}
use Rattle.rdx_defs.specs.Answers.{ReadsJudgement}
use Rattle.rdx_defs.specs.JudgementForms.{JudgementForm, cut_options, judgement_among, judgement_form, judgement_in}
use Rattle.rdx_defs.specs.JudgementReading.{judgement_reading}
use Rattle.rdx_defs.specs.JudgementRefusal.{judgement_refusal}
use Rattle.rdx_defs.specs.JudgementStands.{judgement_stands}
use Rattle.rdx_relations.specs.LanguageRefusal.{unnamable_language_at, refusal_over}
use Rattle.rdx_templates.specs.Scope.{Scope}
use Rattle.rdx_parts.specs.StandChecks.{shape_at, repeated_name_at, bad_name_at, bad_place_at, depth_fault_at, unknown_name_at, undriven_at, escape_at, mode_fault_at}
use Rattle.rdx_forms.specs.Definitions.{judgement}
use Rattle.rdx_forms.specs.OneForm.{by_check}
use Rattle.rdx_forms.specs.FormKinds as kind
use Rattle.rdx_forms.specs.FormKinds.{defines, form_kind}
use Rattle.rdx_forms.specs.Forms.{refusal_by_kind, late_refusal_by_kind, definition_by_kind}
use Rattle.rdx_forms.specs.JudgementForms.{form_language, define_judgement_refusal, judgement_refusal_by, judgement_by}
use Rattle.rdx_forms.specs.Known.{Known}
use Rattle.rdx_forms.specs.LanguageForms.{named_base, unknown_at}
use Rattle.rdx_forms.specs.Answers.{JudgementsBy}
use Rattle.rdx_forms.specs.Inside.Defining.{taken_at_item}
use Rattle.rdx_forms.specs.Reported.{earlier}
use Rattle.rdx_forms.specs.Inside.Earlier.{IsUnless}
use Rattle.rdx_forms.specs.Faults.{IsRefusedBy}
use Rattle.rdx_forms.specs.Inside.PartViews.{language_item, symbol_item, second_among}
use Rattle.rdx_patterns.proofs.Booleans.{and_true}
use Rattle.rdx_forms.proofs.CheckNumbers.{Checks, AreChecks, merged, unnamed-number}
use Rattle.rdx_forms.proofs.LanguageChecks.{unknown-number, item-number, taken-same}
use Rattle.rdx_forms.proofs.StandNumbers.{over_checks, over-checks, over-refusal, unknown-unnamable, absorbed}

-- ---- the checks

-- those of the names
abbrev name_checks : Known → Option Sexp → Option Sexp → Checks
name_checks K l x = (2, unknown_at K l) ∷ (3, taken_at_item K x) ∷ []

name-checks : (K : Known) (l x : Option Sexp) → AreChecks 0 (name_checks K l x)
name-checks K l x = (omega arith, (unknown-number K l, (omega arith, (item-number K x, tt))))

-- ---- the language's name

-- among items
among-language : (o : Option (List Sexp)) (f : JudgementForm) → judgement_among o ≡ Some f → symbol_item (second_among o) ≡ Some f.language
among-language None f e = absurd cc
among-language (Some []) f e = absurd cc
among-language (Some (h ∷ [])) f e = absurd cc
among-language (Some (h ∷ l ∷ ds)) f e = by_test (is_word (codes "define-judgment-form") h && is_symbol l) refl e
  where
    by_test : (b : Bool) → (is_word (codes "define-judgment-form") h && is_symbol l) ≡ b
        → (if b then Some (record { language = l; options = (cut_options ds).0; rules = (cut_options ds).1 }) else None) ≡ Some f → (if is_symbol l then Some l else None) ≡ Some f.language
    by_test true k g =
        let i : record { language = l; options = (cut_options ds).0; rules = (cut_options ds).1 } ≡ f = cc in
        ap (λ (b : Bool). if b then Some l else None) (and_true (is_word (codes "define-judgment-form") h) (is_symbol l) k).1 ∙ ap (λ (g : JudgementForm). Some g.language) i
    by_test false k g = absurd cc

-- of a form that has its parts
language-item : (d : Sexp) (f : JudgementForm) → judgement_form d ≡ Some f → language_item d ≡ Some f.language
language-item d f e = among-language (parts d) f e

-- ---- what is read

-- what is read of the form is refused so
judgement-refused : (S : Scope) (ns : List (List ℕ)) (d : Sexp) (r : Result Judgement DefFault) → ReadsJudgement S ns d r → IsRefusedBy (judgement_refusal S ns d) r
judgement-refused S ns d (Ok j) a = a.passes
judgement-refused S ns d (Err (Refused r)) a = a
judgement-refused S ns d (Err NoMemory) a = tt

-- the name x is that of the form's judgement, where it has its parts
abbrev pub IsNameOf : Sexp → Option Sexp → Type 0
IsNameOf d x = (f : JudgementForm) → judgement_form d ≡ Some f → x ≡ judgement_in f

module _ (K : Known) (h : is_some (language_named K.program (codes "hole")) ≡ false) (d : Sexp) (x : Option Sexp) (n : IsNameOf d x) where
  -- what is refused of the names l and y
  abbrev names_refusal : Option Sexp → Option Sexp → Option Refusal
  names_refusal l y = first_refusal (unknown_at K l ∷ taken_at_item K y ∷ [])

  -- of the form by itself, with these parts, over the language l
  abbrev form_refusal : Option Sexp → Option JudgementForm → Option Refusal
  form_refusal l o =
      refusal_over K.scope (names_of (named_base K l)) (form_language o) (judgement_stands K.scope (names_of (named_base K l)) d o)

  -- a form that has its parts
  known-parts : (f : JudgementForm) → judgement_refusal_by K d (Some f) ≡ earlier (names_refusal (Some f.language) (judgement_in f)) (form_refusal (Some f.language) (Some f))
  known-parts f =
      let ns = names_of (named_base K (Some f.language)) in
      let ss = judgement_stands K.scope ns d (Some f) in
      let l = Some f.language in
      let last =
      first_refusal
      (repeated_name_at ss ∷ bad_name_at ss ∷ bad_place_at K.scope ns ss ∷ depth_fault_at K.scope ns ss ∷ unknown_name_at K.scope ss
      ∷ undriven_at K.scope ss ∷ escape_at K.scope ss ∷ mode_fault_at ss ∷ [])
      in
      (λ i. or_else (shape_at ss) (or_else (unknown_at K l) (or_else (taken-same K (judgement_in f) i) last)))
      ∙ ap (or_else (shape_at ss))
      (absorbed (unknown_at K l) (unnamable_language_at l) (or_else (taken_at_item K (judgement_in f)) last) (unknown-unnamable K h l))
      ∙ merged 0 (name_checks K l (judgement_in f)) (over_checks K.scope ns l ss) (name-checks K l (judgement_in f)) (over-checks K.scope ns l ss)
      ∙ ap (earlier (names_refusal l (judgement_in f))) (sym (over-refusal K.scope ns l ss))

  -- one that has them not
  no-parts : (l y : Option Sexp) → judgement_refusal_by K d None ≡ earlier (names_refusal l y) (form_refusal l None)
  no-parts l y =
      let cs : Checks = (1, Some (unnamed Shape d)) ∷ [] in
      let ks : AreChecks 0 cs = (omega arith, (unnamed-number Shape (Some d), tt)) in
      merged 0 (name_checks K l y) cs (name-checks K l y) ks

  -- by its parts
  by_parts : (o : Option JudgementForm) → judgement_form d ≡ o → judgement_refusal_by K d o ≡ earlier (names_refusal (language_item d) x) (form_refusal (language_item d) o)
  by_parts None e = no-parts (language_item d) x
  by_parts (Some f) e =
      known-parts f ∙ λ i. earlier (names_refusal (sym (language-item d f e) i) (sym (n f e) i)) (form_refusal (sym (language-item d f e) i) (Some f))

  -- the nonterminals of the language
  abbrev language_names : List (List ℕ)
  language_names = names_of (named_base K (language_item d))

  -- the refusal of the form
  judgement-refusal : define_judgement_refusal K d ≡ earlier (names_refusal (language_item d) x) (judgement_refusal K.scope language_names d)
  judgement-refusal = by_parts (judgement_form d) refl

  -- no name is refused
  as_read : (r : Result Judgement DefFault) → form_kind d ≡ defines kind.judgement → names_refusal (language_item d) x ≡ None → ReadsJudgement K.scope language_names d r → JudgementsBy K d r
  as_read (Ok j) k e a =
      let read : judgement_by K (judgement_form d) ≡ Some (judgement_of j) =
      ap (judgement_by K) a.is_form
      ∙ (λ i. Some (judgement_reading K.scope (names_of (named_base K (sym (language-item d a.parts a.is_form) i))) a.parts))
      ∙ ap Some (sym a.is_read)
      in
      record {
        passes = ap (refusal_by_kind K d) k ∙ judgement-refusal ∙ λ i. earlier (e i) (a.passes i);
        means = ap (definition_by_kind K d) k ∙ ap (option_map judgement) read;
        sound = tt;
        passes_late = ap (late_refusal_by_kind d) k;
      }
  as_read (Err (Refused r)) k e a =
      by_check (
      ap (refusal_by_kind K d) k ∙ judgement-refusal ∙ ap (λ (o : Option Refusal). earlier o (judgement_refusal K.scope language_names d)) e ∙ a
      )
  as_read (Err NoMemory) k e a = tt

  -- the answer, by what is said of the names
  by_names : (t : Option DefRefusal) (r z : Result Judgement DefFault) → form_kind d ≡ defines kind.judgement → option_map refusal_of t ≡ names_refusal (language_item d) x
      → ReadsJudgement K.scope language_names d r → IsUnless t r z → JudgementsBy K d z
  by_names None r z k f a u = subst (JudgementsBy K d) (sym u) (as_read r k (sym f) a)
  by_names (Some q) r (Ok v) k f a u = absurd u
  by_names (Some q) r (Err NoMemory) k f a u = tt
  by_names (Some q) r (Err (Refused p)) k f a u =
      by_check (
      ap (refusal_by_kind K d) k
      ∙ judgement-refusal
      ∙ ap (λ (o : Option Refusal). earlier o (judgement_refusal K.scope language_names d)) (sym f)
      ∙ u (judgement_refusal K.scope language_names d) (judgement-refused K.scope language_names d r a)
      )

  -- where l is the name of its language
  pub judgement-over : (l : Option Sexp) (t : Option DefRefusal) (r z : Result Judgement DefFault) → form_kind d ≡ defines kind.judgement → l ≡ language_item d → option_map refusal_of t ≡ names_refusal l x
      → ReadsJudgement K.scope (names_of (named_base K l)) d r → IsUnless t r z → JudgementsBy K d z
  judgement-over l t r z k e f a u =
      by_names t r z k (f ∙ ap (λ (o : Option Sexp). names_refusal o x) e)
      (subst (λ (o : Option Sexp). ReadsJudgement K.scope (names_of (named_base K o)) d r) e a) u

-- Which check refuses a form that defines a metafunction.
use Rattle.std.proofs.Common.{◌≡◌, ℕ, Bool, true, false, List, [], ◌∷◌, Option, Some, None, Result, Ok, Err, refl, sym, ◌∙◌, ap, subst, arith, if◌then◌else◌}
use Rattle.std.specs.Prelude.{◌&&◌, codes, option_map, is_some}
use Rattle.rdx_sexp.specs.Sexp.{Sexp}
use Rattle.rdx_lang.specs.ProgramView.{metafunction_of}
use Rattle.rdx_lang.specs.Programs.{language_named}
use Rattle.rdx_lang.specs.declared.program.Metafunction.{Metafunction}
use Rattle.rdx_patterns.specs.Nonterminals.{names_of}
use Rattle.rdx_patterns.specs.Parts.{parts, is_symbol, is_word}
use Rattle.rdx_patterns.specs.Refusal.{Refusal, refusal_of, unnamed, or_else, first_refusal}
use Rattle.rdx_patterns.specs.declared.shape.fault.DefFault.{DefFault}
use Rattle.rdx_patterns.specs.declared.shape.fault.DefFault.TheVariants.{Refused, NoMemory}
use Rattle.rdx_patterns.specs.declared.shape.fault.DefKind.TheVariants.{Shape}
use Rattle.rdx_patterns.specs.declared.shape.fault.DefRefusal.{DefRefusal}
use Rattle.rdx_defs.specs.Answers.{ReadsMetafunction}
use Rattle.rdx_defs.specs.MetafunctionForms.{ContractForm, MetafunctionForm, cut_at_arrow, with_clauses, contracted, metafunction_over, metafunction_among, metafunction_form, function_in}
use Rattle.rdx_defs.specs.MetafunctionReading.{metafunction_reading}
use Rattle.rdx_defs.specs.MetafunctionRefusal.{metafunction_refusal}
use Rattle.rdx_defs.specs.MetafunctionStands.{metafunction_stands}
use Rattle.rdx_relations.specs.LanguageRefusal.{unnamable_language_at, refusal_over}
use Rattle.rdx_templates.specs.Scope.{Scope}
use Rattle.rdx_parts.specs.StandChecks.{shape_at, bad_name_at, bad_place_at, depth_fault_at, unknown_name_at, undriven_at, escape_at, mode_fault_at}
use Rattle.rdx_forms.specs.Definitions.{metafunction}
use Rattle.rdx_forms.specs.OneForm.{by_check}
use Rattle.rdx_forms.specs.FormKinds as kind
use Rattle.rdx_forms.specs.FormKinds.{defines, form_kind}
use Rattle.rdx_forms.specs.Forms.{refusal_by_kind, late_refusal_by_kind, definition_by_kind}
use Rattle.rdx_forms.specs.Known.{Known}
use Rattle.rdx_forms.specs.LanguageForms.{named_base, unknown_at}
use Rattle.rdx_forms.specs.MetafunctionForms.{function_language, function_refusal, function_refusal_by, function_by}
use Rattle.rdx_forms.specs.Answers.{FunctionsBy}
use Rattle.rdx_forms.specs.Inside.Defining.{taken_at_item}
use Rattle.rdx_forms.specs.Reported.{earlier}
use Rattle.rdx_forms.specs.Inside.Earlier.{IsUnless}
use Rattle.rdx_forms.specs.Faults.{IsRefusedBy}
use Rattle.rdx_forms.specs.Inside.PartViews.{language_item, symbol_item, second_among}
use Rattle.rdx_patterns.proofs.Booleans.{and_true}
use Rattle.rdx_forms.proofs.CheckNumbers.{Checks, AreChecks, merged, unnamed-number}
use Rattle.rdx_forms.proofs.ClauseStands.{of_function}
use Rattle.rdx_forms.proofs.LanguageChecks.{unknown-number, item-number, taken-same}
use Rattle.rdx_forms.proofs.StandNumbers.{nameless_over_checks, nameless-over-checks, nameless-over, unknown-unnamable, absorbed}

-- ---- the checks

-- those of the names
abbrev name_checks : Known → Option Sexp → Option Sexp → Checks
name_checks K l x = (2, unknown_at K l) ∷ (3, taken_at_item K x) ∷ []

name-checks : (K : Known) (l x : Option Sexp) → AreChecks 0 (name_checks K l x)
name-checks K l x = (omega arith, (unknown-number K l, (omega arith, (item-number K x, tt))))

-- ---- the language's name

-- it stands before clauses
with-language : (l : Sexp) (c : Option ContractForm) (ds : List Sexp) (m : MetafunctionForm) → with_clauses l c ds ≡ Some m → m.language ≡ l
with-language l c [] m e = absurd cc
with-language l c (d ∷ ds) m e =
    let f : record { language = l; contract = c; clauses = d ∷ ds } ≡ m = cc in
    ap (λ (n : MetafunctionForm). n.language) (sym f)

-- before a contract
contracted-language : (l f : Sexp) (o : Option (List Sexp × List Sexp)) (m : MetafunctionForm) → contracted l f o ≡ Some m → m.language ≡ l
contracted-language l f None m e = absurd cc
contracted-language l f (Some (ps, [])) m e = absurd cc
contracted-language l f (Some (ps, v ∷ ds)) m e = with-language l (Some (record { function = f; arguments = ps; value = v })) ds m e

-- whatever stands behind it
over-language : (l : Sexp) (ds : List Sexp) (m : MetafunctionForm) → metafunction_over l ds ≡ Some m → m.language ≡ l
over-language l [] m e = absurd cc
over-language l (f ∷ []) m e = with-language l None (f ∷ []) m e
over-language l (f ∷ c ∷ ds) m e = by_test (is_symbol f && is_word (codes ":") c) e
  where
    by_test : (b : Bool) → (if b then contracted l f (cut_at_arrow ds) else with_clauses l None (f ∷ c ∷ ds)) ≡ Some m → m.language ≡ l
    by_test true g = contracted-language l f (cut_at_arrow ds) m g
    by_test false g = with-language l None (f ∷ c ∷ ds) m g

-- among items
among-language : (o : Option (List Sexp)) (m : MetafunctionForm) → metafunction_among o ≡ Some m → symbol_item (second_among o) ≡ Some m.language
among-language None m e = absurd cc
among-language (Some []) m e = absurd cc
among-language (Some (h ∷ [])) m e = absurd cc
among-language (Some (h ∷ l ∷ ds)) m e = by_test (is_word (codes "define-metafunction") h && is_symbol l) refl e
  where
    by_test : (b : Bool) → (is_word (codes "define-metafunction") h && is_symbol l) ≡ b → (if b then metafunction_over l ds else None) ≡ Some m
        → (if is_symbol l then Some l else None) ≡ Some m.language
    by_test true k g =
        ap (λ (b : Bool). if b then Some l else None) (and_true (is_word (codes "define-metafunction") h) (is_symbol l) k).1 ∙ ap Some (sym (over-language l ds m g))
    by_test false k g = absurd cc

-- of a form that has its parts
language-item : (d : Sexp) (m : MetafunctionForm) → metafunction_form d ≡ Some m → language_item d ≡ Some m.language
language-item d m e = among-language (parts d) m e

-- ---- what is read

-- what is read of the form is refused so
function-refused : (S : Scope) (ns : List (List ℕ)) (d : Sexp) (r : Result Metafunction DefFault) → ReadsMetafunction S ns d r → IsRefusedBy (metafunction_refusal S ns d) r
function-refused S ns d (Ok f) a = a.passes
function-refused S ns d (Err (Refused r)) a = a
function-refused S ns d (Err NoMemory) a = tt

-- the name x is that of the form's metafunction, where it has its parts
abbrev pub IsNameOf : Sexp → Option Sexp → Type 0
IsNameOf d x = (m : MetafunctionForm) → metafunction_form d ≡ Some m → x ≡ function_in m

module _ (K : Known) (h : is_some (language_named K.program (codes "hole")) ≡ false) (d : Sexp) (x : Option Sexp) (n : IsNameOf d x) where
  -- what is refused of the names l and y
  abbrev names_refusal : Option Sexp → Option Sexp → Option Refusal
  names_refusal l y = first_refusal (unknown_at K l ∷ taken_at_item K y ∷ [])

  -- of the form by itself, with these parts, over the language l
  abbrev form_refusal : Option Sexp → Option MetafunctionForm → Option Refusal
  form_refusal l o =
      refusal_over K.scope (names_of (named_base K l)) (function_language o) (metafunction_stands K.scope (names_of (named_base K l)) d o)

  -- a form that has its parts
  known-parts : (m : MetafunctionForm) → function_refusal_by K d (Some m) ≡ earlier (names_refusal (Some m.language) (function_in m)) (form_refusal (Some m.language) (Some m))
  known-parts m =
      let ns = names_of (named_base K (Some m.language)) in
      let ss = metafunction_stands K.scope ns d (Some m) in
      let l = Some m.language in
      let last =
      first_refusal
      (bad_name_at ss ∷ bad_place_at K.scope ns ss ∷ depth_fault_at K.scope ns ss ∷ unknown_name_at K.scope ss ∷ undriven_at K.scope ss
      ∷ escape_at K.scope ss ∷ mode_fault_at ss ∷ [])
      in
      (λ i. or_else (shape_at ss) (or_else (unknown_at K l) (or_else (taken-same K (function_in m) i) last)))
      ∙ ap (or_else (shape_at ss))
      (absorbed (unknown_at K l) (unnamable_language_at l) (or_else (taken_at_item K (function_in m)) last) (unknown-unnamable K h l))
      ∙ merged 0 (name_checks K l (function_in m)) (nameless_over_checks K.scope ns l ss) (name-checks K l (function_in m)) (nameless-over-checks K.scope ns l ss)
      ∙ ap (earlier (names_refusal l (function_in m))) (sym (nameless-over K.scope ns l ss (of_function K.scope ns m (function_in m))))

  -- one that has them not
  no-parts : (l y : Option Sexp) → function_refusal_by K d None ≡ earlier (names_refusal l y) (form_refusal l None)
  no-parts l y =
      let cs : Checks = (1, Some (unnamed Shape d)) ∷ [] in
      let ks : AreChecks 0 cs = (omega arith, (unnamed-number Shape (Some d), tt)) in
      merged 0 (name_checks K l y) cs (name-checks K l y) ks

  -- by its parts
  by_parts : (o : Option MetafunctionForm) → metafunction_form d ≡ o → function_refusal_by K d o ≡ earlier (names_refusal (language_item d) x) (form_refusal (language_item d) o)
  by_parts None e = no-parts (language_item d) x
  by_parts (Some m) e =
      known-parts m ∙ λ i. earlier (names_refusal (sym (language-item d m e) i) (sym (n m e) i)) (form_refusal (sym (language-item d m e) i) (Some m))

  -- the nonterminals of the language
  abbrev language_names : List (List ℕ)
  language_names = names_of (named_base K (language_item d))

  -- the refusal of the form
  function-refusal : function_refusal K d ≡ earlier (names_refusal (language_item d) x) (metafunction_refusal K.scope language_names d)
  function-refusal = by_parts (metafunction_form d) refl

  -- no name is refused
  as_read : (r : Result Metafunction DefFault) → form_kind d ≡ defines kind.metafunction → names_refusal (language_item d) x ≡ None → ReadsMetafunction K.scope language_names d r → FunctionsBy K d r
  as_read (Ok f) k e a =
      let read : function_by K (metafunction_form d) ≡ Some (metafunction_of f) =
      ap (function_by K) a.is_form
      ∙ (λ i. Some (metafunction_reading K.scope (names_of (named_base K (sym (language-item d a.parts a.is_form) i))) a.parts))
      ∙ ap Some (sym a.is_read)
      in
      record {
        passes = ap (refusal_by_kind K d) k ∙ function-refusal ∙ λ i. earlier (e i) (a.passes i);
        means = ap (definition_by_kind K d) k ∙ ap (option_map metafunction) read;
        sound = tt;
        passes_late = ap (late_refusal_by_kind d) k;
      }
  as_read (Err (Refused r)) k e a =
      by_check (ap (refusal_by_kind K d) k ∙ function-refusal ∙ ap (λ (o : Option Refusal). earlier o (metafunction_refusal K.scope language_names d)) e ∙ a)
  as_read (Err NoMemory) k e a = tt

  -- the answer, by what is said of the names
  by_names : (t : Option DefRefusal) (r z : Result Metafunction DefFault) → form_kind d ≡ defines kind.metafunction → option_map refusal_of t ≡ names_refusal (language_item d) x
      → ReadsMetafunction K.scope language_names d r → IsUnless t r z → FunctionsBy K d z
  by_names None r z k f a u = subst (FunctionsBy K d) (sym u) (as_read r k (sym f) a)
  by_names (Some q) r (Ok v) k f a u = absurd u
  by_names (Some q) r (Err NoMemory) k f a u = tt
  by_names (Some q) r (Err (Refused p)) k f a u =
      by_check (
      ap (refusal_by_kind K d) k
      ∙ function-refusal
      ∙ ap (λ (o : Option Refusal). earlier o (metafunction_refusal K.scope language_names d)) (sym f)
      ∙ u (metafunction_refusal K.scope language_names d) (function-refused K.scope language_names d r a)
      )

  -- where l is the name of its language
  pub function-over : (l : Option Sexp) (t : Option DefRefusal) (r z : Result Metafunction DefFault) → form_kind d ≡ defines kind.metafunction → l ≡ language_item d → option_map refusal_of t ≡ names_refusal l x
      → ReadsMetafunction K.scope (names_of (named_base K l)) d r → IsUnless t r z → FunctionsBy K d z
  function-over l t r z k e f a u =
      by_names t r z k (f ∙ ap (λ (o : Option Sexp). names_refusal o x) e)
      (subst (λ (o : Option Sexp). ReadsMetafunction K.scope (names_of (named_base K o)) d r) e a) u

-- What accepted forms that define something have, by their parts.
use Rattle.std.proofs.Common.{◌≡◌, List, [], ◌∷◌, Option, Some, None, refl, ◌∙◌}
use Rattle.std.specs.Prelude.{option_map}
use Rattle.rdx_sexp.specs.Sexp.{Sexp}
use Rattle.rdx_lang.specs.Patterns.{Language}
use Rattle.rdx_lang.specs.Programs.{Metafunction, Judgement, Relation}
use Rattle.rdx_patterns.proofs.Firsts.{none_or}
use Rattle.rdx_grammar.specs.Forms.{GrammarForm}
use Rattle.rdx_grammar.specs.Languages.{language_over}
use Rattle.rdx_patterns.specs.Parts.{text_of}
use Rattle.rdx_patterns.specs.Refusal.{or_else}
use Rattle.rdx_grammar.specs.Refused as grammar
use Rattle.rdx_grammar.specs.Stands.{form_stands}
use Rattle.rdx_defs.specs.JudgementForms.{JudgementForm, judgement_form, judgement_in}
use Rattle.rdx_defs.specs.JudgementReading.{judgement_reading}
use Rattle.rdx_defs.specs.JudgementStands.{judgement_stands}
use Rattle.rdx_defs.specs.MetafunctionForms.{MetafunctionForm, metafunction_form, function_in}
use Rattle.rdx_defs.specs.MetafunctionReading.{metafunction_reading}
use Rattle.rdx_defs.specs.MetafunctionStands.{metafunction_stands}
use Rattle.rdx_relations.specs.RelationForms.{RelationForm, relation_form}
use Rattle.rdx_relations.specs.RelationReading.{relation_reading}
use Rattle.rdx_relations.specs.RelationStands.{relation_stands}
use Rattle.rdx_parts.specs.StandChecks.{shape_at, repeated_name_at}
use Rattle.rdx_parts.specs.StandRefusal.{stands_refusal}
use Rattle.rdx_parts.specs.Stands.{Stand}
use Rattle.rdx_forms.specs.DefineParts.{DefineParts}
use Rattle.rdx_forms.specs.JudgementForms.{form_names, judgement_refusal_by, judgement_by}
use Rattle.rdx_forms.specs.Known.{Known}
use Rattle.rdx_forms.specs.LanguageForms.{unknown_at, name_taken_at, taken_at, language_refusal}
use Rattle.rdx_forms.specs.MetafunctionForms.{function_names, function_taken_at, function_refusal_by, function_by}
use Rattle.rdx_forms.specs.RelationForms.{define_shape_at, bad_relation_at, relation_names, relation_language, cases_refusal, cases_relation}
use Rattle.rdx_forms.proofs.ClauseStands.{of_function}
use Rattle.rdx_forms.proofs.StandNumbers.{nameless-refusal}

-- ---- what a function gives

-- there is a value, of which this is the image
pub record IsImage (A B : Type 0) (f : A → B) (o : Option A) (y : B) : Type 0 where
  pub value : A
  pub is : o ≡ Some value
  pub gives : f value ≡ y

-- so there is, where the function gives this
pub image-of : {A B : Type 0} (f : A → B) (o : Option A) (y : B) → option_map f o ≡ Some y → IsImage A B f o y
image-of f None y e = absurd cc
image-of f (Some x) y e = record { value = x; is = refl; gives = cc }

-- ---- languages

-- a form of a language over a base that is accepted
pub record IsLanguageOf (K : Known) (base : Language) (d : Sexp) (o : Option GrammarForm) (L : Language) : Type 0 where
  pub parts : GrammarForm
  pub is_form : o ≡ Some parts
  pub means : language_over base parts ≡ L
  pub free : name_taken_at K parts.name ≡ None
  pub names : grammar.bad_name_at (form_stands d (Some parts)) ≡ None

-- so it is, where no check refuses it
pub language-parts : (K : Known) (base : Language) (l0 : Option Sexp) (d : Sexp) (o : Option GrammarForm) (L : Language)
    → language_refusal K base l0 d o ≡ None → option_map (language_over base) o ≡ Some L → IsLanguageOf K base d o L
language-parts K base l0 d None L r m = absurd cc
language-parts K base l0 d (Some g) L r m =
    let ss = form_stands d (Some g) in
    let b = (none_or (grammar.shape_at ss) _ r).1 in
    let c = (none_or (unknown_at K l0) _ b).1 in
    let e = none_or (taken_at K (Some g)) _ c in
    let f = (none_or (grammar.duplicate_at ss) _ e.1).1 in
    let h = none_or (grammar.bad_name_at ss) _ f in
    record { parts = g; is_form = refl; means = cc; free = e.0; names = h.0 }

-- ---- metafunctions

-- a form of a metafunction that is accepted
pub record IsFunctionOf (K : Known) (d : Sexp) (F : Metafunction) : Type 0 where
  pub parts : MetafunctionForm
  pub is_form : metafunction_form d ≡ Some parts
  pub means : metafunction_reading K.scope (function_names K (Some parts)) parts ≡ F
  pub passes :
      stands_refusal K.scope (function_names K (Some parts)) (metafunction_stands K.scope (function_names K (Some parts)) d (Some parts)) ≡ None
  pub known : unknown_at K (Some parts.language) ≡ None
  pub free : function_taken_at K (function_in parts) ≡ None

-- so it is, where no check refuses it
pub function-parts : (K : Known) (d : Sexp) (o : Option MetafunctionForm) (F : Metafunction) → metafunction_form d ≡ o
    → function_refusal_by K d o ≡ None
    → function_by K o ≡ Some F → IsFunctionOf K d F
function-parts K d None F e r m = absurd cc
function-parts K d (Some p) F e r m =
    let S = K.scope in
    let ns = function_names K (Some p) in
    let ss = metafunction_stands S ns d (Some p) in
    let b = none_or (shape_at ss) _ r in
    let c = none_or (unknown_at K (Some p.language)) _ b.1 in
    let f = none_or (function_taken_at K (function_in p)) _ c.1 in
    let stands : stands_refusal S ns ss ≡ None = nameless-refusal S ns ss (of_function S ns p (function_in p)) ∙ (λ i. or_else (b.0 i) (f.1 i)) in
    record {
      parts = p;
      is_form = e;
      means = cc;
      passes = stands;
      known = c.0;
      free = f.0;
    }

-- ---- judgements

-- a form of a judgement that is accepted
pub record IsJudgementOf (K : Known) (d : Sexp) (J : Judgement) : Type 0 where
  pub parts : JudgementForm
  pub is_form : judgement_form d ≡ Some parts
  pub means : judgement_reading K.scope (form_names K (Some parts)) parts ≡ J
  pub passes : stands_refusal K.scope (form_names K (Some parts)) (judgement_stands K.scope (form_names K (Some parts)) d (Some parts)) ≡ None
  pub known : unknown_at K (Some parts.language) ≡ None
  pub free : function_taken_at K (judgement_in parts) ≡ None

-- so it is, where no check refuses it
pub judgement-parts : (K : Known) (d : Sexp) (o : Option JudgementForm) (J : Judgement) → judgement_form d ≡ o → judgement_refusal_by K d o ≡ None
    → judgement_by K o ≡ Some J → IsJudgementOf K d J
judgement-parts K d None J e r m = absurd cc
judgement-parts K d (Some p) J e r m =
    let S = K.scope in
    let ns = form_names K (Some p) in
    let ss = judgement_stands S ns d (Some p) in
    let b = none_or (shape_at ss) _ r in
    let c = none_or (unknown_at K (Some p.language)) _ b.1 in
    let f = none_or (function_taken_at K (judgement_in p)) _ c.1 in
    let stands : stands_refusal S ns ss ≡ None = λ i. or_else (b.0 i) (f.1 i) in
    record {
      parts = p;
      is_form = e;
      means = cc;
      passes = stands;
      known = c.0;
      free = f.0;
    }

-- ---- relations by cases

-- the check of more than the name and the list passes what that of the list passes
define-shape : (d : Sexp) (es : List Sexp) (ss : List Stand) → define_shape_at d es ss ≡ None → shape_at ss ≡ None
define-shape d [] ss e = e
define-shape d (x ∷ es) ss e = absurd cc

-- a list that gives the cases of a relation that is accepted
pub record IsCasesOf (K : Known) (q : DefineParts) (R : Relation) : Type 0 where
  pub parts : RelationForm
  pub is_form : relation_form q.body ≡ Some parts
  pub means : relation_reading K.scope (relation_names K q) (text_of q.name) parts ≡ R
  pub passes : stands_refusal K.scope (relation_names K q) (relation_stands K.scope (relation_names K q) q.body (relation_form q.body)) ≡ None
  pub known : unknown_at K (relation_language q) ≡ None
  pub free : name_taken_at K q.name ≡ None

-- so it is, where no check refuses the form
pub cases-parts : (K : Known) (d : Sexp) (q : DefineParts) (R : Relation) → cases_refusal K d q ≡ None → cases_relation K q ≡ Some R → IsCasesOf K q R
cases-parts K d q R r m =
    let S = K.scope in
    let ns = relation_names K q in
    let ss = relation_stands S ns q.body (relation_form q.body) in
    let v = image-of (relation_reading S ns (text_of q.name)) (relation_form q.body) R m in
    let b = none_or (define_shape_at d q.rest ss) _ r in
    let c = none_or (unknown_at K (relation_language q)) _ b.1 in
    let f = none_or (name_taken_at K q.name) _ c.1 in
    let h = none_or (repeated_name_at ss) _ f.1 in
    let k = none_or (bad_relation_at q.name) _ h.1 in
    let shape = define-shape d q.rest ss b.0 in
    record {
      parts = v.value;
      is_form = v.is;
      means = v.gives;
      passes = λ i. or_else (shape i) (or_else (h.0 i) (k.1 i));
      known = c.0;
      free = f.0;
    }

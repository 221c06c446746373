-- A judgement that the scope of a file has by an accepted form is the one that the form defines.
use Rattle.std.proofs.Common.{◌≡◌, ℕ, Bool, true, false, List, [], ◌∷◌, Option, Some, None, map, refl, sym, ◌∙◌, ap, subst, if◌then◌else◌}
use Rattle.std.specs.Prelude.{◌&&◌, is_some, IsSome, bytes_eq, codes, option_map}
use Rattle.std.specs.List.{list_all}
use Rattle.std.specs.Cmp.Lexicographic.{bytes_decides}
use Rattle.std.specs.Str.{chars}
use Rattle.rdx_sexp.specs.Sexp.{integer, truth, text, symbol, keyword, Sexp, leaf, list}
use Rattle.rdx_lang.specs.Programs.{Judgement, Mode, judgement_among}
use Rattle.rdx_term.specs.Spelling.{is_name}
use Rattle.rdx_patterns.specs.Parts.{parts, is_symbol, is_word, text_of}
use Rattle.rdx_defs.specs.JudgementForms as forms
use Rattle.rdx_defs.specs.JudgementForms.{JudgementForm, rule_form, judgement_form, judgement_in, own_mode, are_fit_options}
use Rattle.rdx_defs.specs.JudgementReading.{judgement_reading}
use Rattle.rdx_defs.specs.MetafunctionReading.{text_in}
use Rattle.rdx_templates.specs.Scope.{mode_among}
use Rattle.rdx_defs.specs.Scopes.{is_rule_of, with_mode, judgement_by as judgement_in_scope, judgement_moded, defined_judgements}
use Rattle.rdx_forms.specs.BindingParts.{grammar_part}
use Rattle.rdx_forms.specs.DefineForms.{defined_relation}
use Rattle.rdx_forms.specs.Definitions.{Defined, language, metafunction, judgement, relation}
use Rattle.rdx_forms.specs.OneForm.{Defines, Asks, IsPassedOver}
use Rattle.rdx_forms.specs.FormKinds as kind
use Rattle.rdx_forms.specs.FormKinds.{DefinitionKind, FormKind, defines, asks, passes, heads, kind_in, kind_by_head, kind_among, form_kind}
use Rattle.rdx_forms.specs.Forms.{definition_by_kind, query_by_kind, is_passed_kind}
use Rattle.rdx_forms.specs.JudgementForms.{form_names, judgement_by, defined_judgement}
use Rattle.rdx_forms.specs.Known.{Known}
use Rattle.rdx_forms.specs.LanguageForms.{plain_language, extended_language}
use Rattle.rdx_forms.specs.MetafunctionForms.{defined_function}
use Rattle.rdx_answer.specs.Queries.{Query}

-- ---- which forms define a judgement

-- what a form defines is one
abbrev defines_one : DefinitionKind → Bool
defines_one kind.language = false
defines_one kind.extension = false
defines_one kind.metafunction = false
defines_one kind.judgement = true
defines_one kind.relation = false

-- a form defines one
abbrev is_one : FormKind → Bool
is_one (defines k) = defines_one k
is_one (asks k) = false
is_one (passes k) = false

-- one with this head does
head-defines : is_one (kind_in heads (codes "define-judgment-form")) ≡ true
unfolding chars
head-defines = refl

by_text : (x : List ℕ) → bytes_eq x (codes "define-judgment-form") ≡ true → is_one (kind_in heads x) ≡ true
by_text x e = subst (λ (y : List ℕ). is_one (kind_in heads y) ≡ true) (sym ((bytes_decides x (codes "define-judgment-form")).0 e)) head-defines

-- a list of these parts is headed by this word
abbrev pub begins_with : List ℕ → Option (List Sexp) → Bool
begins_with x None = false
begins_with x (Some []) = false
begins_with x (Some (h ∷ ds)) = is_word x h

-- without the head it has not the parts of a judgement
pub no-judgement : (o : Option (List Sexp)) → begins_with (codes "define-judgment-form") o ≡ false → forms.judgement_among o ≡ None
no-judgement None e = refl
no-judgement (Some []) e = refl
no-judgement (Some (h ∷ [])) e = refl
no-judgement (Some (h ∷ l ∷ ds)) e =
    ap (λ (b : Bool). if b && is_symbol l then Some (record { language = l; options = (forms.cut_options ds).0; rules = (forms.cut_options ds).1 }) else None) e

by_head : (h : Sexp) (ds : List Sexp) → begins_with (codes "define-judgment-form") (Some (h ∷ ds)) ≡ true → is_one (kind_by_head h) ≡ true
by_head (leaf (integer n) s) ds e = absurd cc
by_head (leaf (truth b) s) ds e = absurd cc
by_head (leaf (text x) s) ds e = absurd cc
by_head (leaf (symbol x) s) ds e = by_text x e
by_head (leaf (keyword k) s) ds e = absurd cc
by_head (list es s) ds e = absurd cc

by_items : (o : Option (List Sexp)) → begins_with (codes "define-judgment-form") o ≡ true → is_one (kind_among o) ≡ true
by_items None e = absurd cc
by_items (Some []) e = absurd cc
by_items (Some (h ∷ ds)) e = by_head h ds e

-- for the scope a form of another kind defines none
none-defined : (d : Sexp) (k : FormKind) → form_kind d ≡ k → is_one k ≡ false → defined_judgements d ≡ []
none-defined d k e f = by_test (begins_with (codes "define-judgment-form") (parts d)) refl
  where
    by_test : (b : Bool) → begins_with (codes "define-judgment-form") (parts d) ≡ b → defined_judgements d ≡ []
    by_test true g =
        let h : true ≡ false = sym (by_items (parts d) g) ∙ ap is_one e ∙ f in
        absurd cc
    by_test false g = ap judgement_moded (no-judgement (parts d) g)

-- ---- the name of a judgement of the scope

-- the scope has a judgement of this name
abbrev pub HasMode : List (List ℕ × Mode) → List ℕ → Type 0
HasMode js x = IsSome (mode_among js x)

-- one of none is none
pub no-mode : (x : List ℕ) → HasMode [] x → ⊥
no-mode x e = absurd cc

-- by a test, these or none
tested-mode : (b : Bool) (js : List (List ℕ × Mode)) (x : List ℕ) → HasMode (if b then js else []) x → HasMode js x
tested-mode true js x e = e
tested-mode false js x e = absurd (no-mode x e)

-- it is the only name with a mode
only-mode : (b : Bool) (m : Mode) → is_some (if b then Some m else None) ≡ true → b ≡ true
only-mode true m e = refl
only-mode false m e = absurd cc

with-mode : (j : Sexp) (o : Option Mode) (x : List ℕ) → HasMode (with_mode j o) x → bytes_eq (text_of j) x ≡ true
with-mode j None x e = absurd (no-mode x e)
with-mode j (Some m) x e = by_test (is_name (text_of j)) e
  where
    by_test : (b : Bool) → HasMode (map (λ (y : List ℕ). (y, m)) (if b then text_of j ∷ [] else [])) x → bytes_eq (text_of j) x ≡ true
    by_test true f = only-mode (bytes_eq (text_of j) x) m f
    by_test false f = absurd (no-mode x f)

named-by : (f : JudgementForm) (o : Option Sexp) (x : List ℕ) → HasMode (judgement_in_scope f o) x → bytes_eq (text_in o) x ≡ true
named-by f None x e = absurd (no-mode x e)
named-by f (Some j) x e =
    with-mode j (own_mode f) x
    (tested-mode (are_fit_options (Some j) [] f.options && list_all (λ d. is_rule_of j (rule_form d)) f.rules) (with_mode j (own_mode f)) x e)

-- ---- what is defined

-- the judgement that is defined, if one is
abbrev pub judgements_in : Defined → List Judgement
judgements_in (language L) = []
judgements_in (metafunction F) = []
judgements_in (judgement J) = J ∷ []
judgements_in (relation R) = []

-- of what an accepted form defines, where it defines some of one kind
pub mapped-some : {A : Type 0} (f : A → Defined) (o : Option A) (x : Defined) → option_map f o ≡ Some x → (P : Defined → Type 0) → ((a : A) → o ≡ Some a → P (f a)) → P x
mapped-some f None x m P g = absurd cc
mapped-some f (Some a) x m P g = let h : f a ≡ x = cc in subst P h (g a refl)

-- what is defined has each name that the scope has by the form
abbrev IsOf : Sexp → Defined → Type 0
IsOf d x = (y : List ℕ) → HasMode (defined_judgements d) y → IsSome (judgement_among (judgements_in x) y)

-- it has none by another form
of_none : (d : Sexp) (x : Defined) (k : FormKind) → form_kind d ≡ k → is_one k ≡ false → IsOf d x
of_none d x k e f y m = absurd (no-mode y (subst (λ (js : List (List ℕ × Mode)). HasMode js y) (none-defined d k e f) m))

-- a judgement of this name alone
only-judgement : (J : Judgement) (b : Bool) → b ≡ true → is_some (if b then Some J else None) ≡ true
only-judgement J true e = refl
only-judgement J false e = absurd cc

-- the judgement of a form has the name
by_form : (K : Known) (o : Option JudgementForm) (J : Judgement) (x : List ℕ) → judgement_by K o ≡ Some J → HasMode (judgement_moded o) x → IsSome (judgement_among (J ∷ []) x)
by_form K None J x m e = absurd cc
by_form K (Some f) J x m e =
    let g : judgement_reading K.scope (form_names K (Some f)) f ≡ J = cc in
    only-judgement J (bytes_eq J.name x) (ap (λ (I : Judgement). bytes_eq I.name x) (sym g) ∙ named-by f (judgement_in f) x e)

of_judgement : (K : Known) (d : Sexp) (J : Judgement) → defined_judgement K d ≡ Some J → IsOf d (judgement J)
of_judgement K d J m y e = by_form K (judgement_form d) J y m e

by_kind : (K : Known) (d : Sexp) (k : FormKind) (x : Defined) → form_kind d ≡ k → definition_by_kind K d k ≡ Some x → IsOf d x
by_kind K d (asks k) x e m = absurd cc
by_kind K d (passes k) x e m = absurd cc
by_kind K d (defines kind.language) x e m =
    mapped-some language (plain_language (grammar_part d)) x m (IsOf d) (λ L f. of_none d (language L) (defines kind.language) e refl)
by_kind K d (defines kind.extension) x e m =
    mapped-some language (extended_language K (grammar_part d)) x m (IsOf d) (λ L f. of_none d (language L) (defines kind.extension) e refl)
by_kind K d (defines kind.metafunction) x e m =
    mapped-some metafunction (defined_function K d) x m (IsOf d) (λ F f. of_none d (metafunction F) (defines kind.metafunction) e refl)
by_kind K d (defines kind.judgement) x e m = mapped-some judgement (defined_judgement K d) x m (IsOf d) (λ J f. of_judgement K d J f)
by_kind K d (defines kind.relation) x e m =
    mapped-some relation (defined_relation K d) x m (IsOf d) (λ R f. of_none d (relation R) (defines kind.relation) e refl)

-- of an accepted form
pub defines-moded : (K : Known) (d : Sexp) (x : Defined) (y : List ℕ) → Defines K d x → HasMode (defined_judgements d) y → IsSome (judgement_among (judgements_in x) y)
defines-moded K d x y a e = by_kind K d (form_kind d) x refl a.means y e

-- one that asks something defines none
by_asking : (K : Known) (d : Sexp) (k : FormKind) (q : Query) → form_kind d ≡ k → query_by_kind K d k ≡ Some q → defined_judgements d ≡ []
by_asking K d (defines k) q e m = absurd cc
by_asking K d (asks k) q e m = none-defined d (asks k) e refl
by_asking K d (passes k) q e m = absurd cc

pub asks-moded : (K : Known) (d : Sexp) (q : Query) → Asks K d q → defined_judgements d ≡ []
asks-moded K d q a = by_asking K d (form_kind d) q refl a.means

-- nor does one that is passed over
by_passing : (d : Sexp) (k : FormKind) → form_kind d ≡ k → is_passed_kind k ≡ true → defined_judgements d ≡ []
by_passing d (defines k) e m = absurd cc
by_passing d (asks k) e m = absurd cc
by_passing d (passes k) e m = none-defined d (passes k) e refl

pub passed-moded : (K : Known) (d : Sexp) → IsPassedOver K d → defined_judgements d ≡ []
passed-moded K d a = by_passing d (form_kind d) refl a.means

-- The forms of a file are accepted in one way at most, or refused in one way.
use Rattle.std.proofs.Common.{◌≡◌, List, [], ◌∷◌, Option, Some, None, refl, sym, ◌∙◌, ap, subst}
use Rattle.std.specs.Prelude.{IsTrue}
use Rattle.rdx_sexp.specs.Sexp.{Sexp}
use Rattle.rdx_lang.specs.Edges.{IsFirstRecursive}
use Rattle.rdx_lang.specs.Patterns.{Language}
use Rattle.rdx_lang.specs.declared.pattern.Ref.{Ref}
use Rattle.rdx_patterns.specs.Refusal.{Refusal}
use Rattle.rdx_grammar.specs.Refused.{recursion_at}
use Rattle.rdx_forms.specs.BindingParts.{grammar_part}
use Rattle.rdx_forms.specs.Definitions.{Defined, language, IsSound}
use Rattle.rdx_forms.specs.OneForm.{Defines, Asks, IsPassedOver, IsRefusedForm, by_check, by_recursion, by_late_check}
use Rattle.rdx_query.specs.File.{Accepts, accepts_none, accepts_definition, accepts_query, accepts_passed, Refuses, refuses_here, refuses_behind_definition, refuses_behind_query, refuses_behind_passed}
use Rattle.rdx_forms.specs.FormKinds.{FormKind, defines, asks, passes, form_kind}
use Rattle.rdx_forms.specs.Forms.{form_refusal, late_refusal, form_definition, form_query, definition_by_kind, query_by_kind, is_passed_kind}
use Rattle.rdx_forms.specs.Known.{Known, with_definition}
use Rattle.rdx_answer.specs.Queries.{Query}
use Rattle.rdx_lang.proofs.FirstRecursive.{first_recursive-same, first_recursive-free}

-- ---- forms

-- no kind of form both defines something and asks something
by_kind : (K : Known) (d : Sexp) (k : FormKind) (x : Defined) (q : Query) → definition_by_kind K d k ≡ Some x → query_by_kind K d k ≡ Some q → ⊥
by_kind K d (defines k) x q e f = absurd cc
by_kind K d (asks k) x q e f = absurd cc
by_kind K d (passes k) x q e f = absurd cc

-- no form does both
not_both : (K : Known) (d : Sexp) (x : Defined) (q : Query) → form_definition K d ≡ Some x → form_query K d ≡ Some q → ⊥
not_both K d x q e f = by_kind K d (form_kind d) x q e f

-- what defines something is not passed over
passed_defines : (K : Known) (d : Sexp) (k : FormKind) (x : Defined) → IsTrue (is_passed_kind k) → definition_by_kind K d k ≡ Some x → ⊥
passed_defines K d (defines k) x t e = absurd cc
passed_defines K d (asks k) x t e = absurd cc
passed_defines K d (passes k) x t e = absurd cc

not_passed_defined : (K : Known) (d : Sexp) (x : Defined) → IsPassedOver K d → form_definition K d ≡ Some x → ⊥
not_passed_defined K d x a e = passed_defines K d (form_kind d) x a.means e

-- nor what asks something
passed_asks : (K : Known) (d : Sexp) (k : FormKind) (q : Query) → IsTrue (is_passed_kind k) → query_by_kind K d k ≡ Some q → ⊥
passed_asks K d (defines k) q t e = absurd cc
passed_asks K d (asks k) q t e = absurd cc
passed_asks K d (passes k) q t e = absurd cc

not_passed_asked : (K : Known) (d : Sexp) (q : Query) → IsPassedOver K d → form_query K d ≡ Some q → ⊥
not_passed_asked K d q a e = passed_asks K d (form_kind d) q a.means e

-- what is some value is one
same_some : {A : Type 0} (o : Option A) (x y : A) → o ≡ Some x → o ≡ Some y → x ≡ y
same_some o x y e f = cc

-- it is none or some
not_some : {A : Type 0} (o : Option A) (x : A) → o ≡ None → o ≡ Some x → ⊥
not_some o x e f = absurd cc

-- a form defines one thing at most
one_definition : (K : Known) (d : Sexp) (x y : Defined) → Defines K d x → Defines K d y → x ≡ y
one_definition K d x y a b = same_some (form_definition K d) x y a.means b.means

-- one language is
same_language : (L M : Language) → language L ≡ language M → L ≡ M
same_language L M e = cc

-- a form asks one thing at most
one_question : (K : Known) (d : Sexp) (q r : Query) → Asks K d q → Asks K d r → q ≡ r
one_question K d q r a b = same_some (form_query K d) q r a.means b.means

-- what is sound has no left recursion
sound_not_recursive : (K : Known) (d : Sexp) (x : Defined) (L : Language) (y : Ref) → form_definition K d ≡ Some x → IsSound x → form_definition K d ≡ Some (language L) → IsFirstRecursive L y → ⊥
sound_not_recursive K d x L y e s f i =
    let k : x ≡ language L = same_some (form_definition K d) x (language L) e f in
    first_recursive-free L y (subst IsSound k s) i

-- a form has one refusal at most
one_form_refusal : (K : Known) (d : Sexp) (r q : Refusal) → IsRefusedForm K d r → IsRefusedForm K d q → r ≡ q
one_form_refusal K d r q (by_check e) (by_check f) = same_some (form_refusal K d) r q e f
one_form_refusal K d r q (by_check e) (by_recursion M y f m b g) = absurd (not_some (form_refusal K d) r f e)
one_form_refusal K d r q (by_check e) (by_late_check y f m s g) = absurd (not_some (form_refusal K d) r f e)
one_form_refusal K d r q (by_recursion L x e l a g) (by_check f) = absurd (not_some (form_refusal K d) q e f)
one_form_refusal K d r q (by_recursion L x e l a g) (by_recursion M y f m b h) =
    let k : L ≡ M = same_language L M (same_some (form_definition K d) (language L) (language M) l m) in
    g ∙ ap (recursion_at (grammar_part d)) (first_recursive-same M x y (subst (λ (N : Language). IsFirstRecursive N x) k a) b) ∙ sym h
one_form_refusal K d r q (by_recursion L x e l a g) (by_late_check y f m s h) = absurd (sound_not_recursive K d y L x m s l a)
one_form_refusal K d r q (by_late_check x e l s g) (by_check f) = absurd (not_some (form_refusal K d) q e f)
one_form_refusal K d r q (by_late_check x e l s g) (by_recursion M y f m b h) = absurd (sound_not_recursive K d x M y l s m b)
one_form_refusal K d r q (by_late_check x e l s g) (by_late_check y f m t h) = same_some (late_refusal d) r q g h

-- a form that defines something isn't refused
defined_not_refused : (K : Known) (d : Sexp) (x : Defined) (r : Refusal) → Defines K d x → IsRefusedForm K d r → ⊥
defined_not_refused K d x r a (by_check e) = not_some (form_refusal K d) r a.passes e
defined_not_refused K d x r a (by_recursion M y e m b g) = sound_not_recursive K d x M y a.means a.sound m b
defined_not_refused K d x r a (by_late_check y e m s g) = not_some (late_refusal d) r a.passes_late g

-- nor is one that asks something
asked_not_refused : (K : Known) (d : Sexp) (q : Query) (r : Refusal) → Asks K d q → IsRefusedForm K d r → ⊥
asked_not_refused K d q r a (by_check e) = not_some (form_refusal K d) r a.passes e
asked_not_refused K d q r a (by_recursion M x e m b g) = not_both K d (language M) q m a.means
asked_not_refused K d q r a (by_late_check x e m s g) = not_both K d x q m a.means

-- nor one that is passed over
passed_not_refused : (K : Known) (d : Sexp) (r : Refusal) → IsPassedOver K d → IsRefusedForm K d r → ⊥
passed_not_refused K d r a (by_check e) = not_some (form_refusal K d) r a.passes e
passed_not_refused K d r a (by_recursion M x e m b g) = not_passed_defined K d (language M) a m
passed_not_refused K d r a (by_late_check x e m s g) = not_passed_defined K d x a m

-- ---- files

-- what accepted forms mean
pub record AreSame (J I : Known) (qs rs : List Query) : Type 0 where
  pub known : J ≡ I
  pub queries : qs ≡ rs

-- one more query in front
same_more : (J I : Known) (q r : Query) (qs rs : List Query) → q ≡ r → AreSame J I qs rs → AreSame J I (q ∷ qs) (r ∷ rs)
same_more J I q r qs rs e s = record { known = s.known; queries = λ i. e i ∷ s.queries i }

-- forms are accepted in one way at most
pub accepts-one : (K : Known) (ds : List Sexp) (J I : Known) (qs rs : List Query) → Accepts K ds J qs → Accepts K ds I rs → AreSame J I qs rs
accepts-one K [] J I qs rs accepts_none accepts_none = record { known = refl; queries = refl }
accepts-one K (d ∷ ds) J I qs rs (accepts_definition {x} a more) (accepts_definition {x = y} b rest) =
    accepts-one (with_definition K y) ds J I qs rs (subst (λ (z : Defined). Accepts (with_definition K z) ds J qs) (one_definition K d x y a b) more) rest
accepts-one K (d ∷ ds) J I qs rs (accepts_definition {x} a more) (accepts_query {q} b rest) = absurd (not_both K d x q a.means b.means)
accepts-one K (d ∷ ds) J I qs rs (accepts_definition {x} a more) (accepts_passed b rest) = absurd (not_passed_defined K d x b a.means)
accepts-one K (d ∷ ds) J I qs rs (accepts_query {q} a more) (accepts_definition {x} b rest) = absurd (not_both K d x q b.means a.means)
accepts-one K (d ∷ ds) J I qs rs (accepts_query {q} {qs = more_qs} a more) (accepts_query {q = r} {qs = more_rs} b rest) =
    same_more J I q r more_qs more_rs (one_question K d q r a b) (accepts-one K ds J I more_qs more_rs more rest)
accepts-one K (d ∷ ds) J I qs rs (accepts_query {q} a more) (accepts_passed b rest) = absurd (not_passed_asked K d q b a.means)
accepts-one K (d ∷ ds) J I qs rs (accepts_passed a more) (accepts_definition {x} b rest) = absurd (not_passed_defined K d x a b.means)
accepts-one K (d ∷ ds) J I qs rs (accepts_passed a more) (accepts_query {q} b rest) = absurd (not_passed_asked K d q a b.means)
accepts-one K (d ∷ ds) J I qs rs (accepts_passed a more) (accepts_passed b rest) = accepts-one K ds J I qs rs more rest

-- forms have one refusal at most
pub refuses-one : (K : Known) (ds : List Sexp) (r q : Refusal) → Refuses K ds r → Refuses K ds q → r ≡ q
refuses-one K [] r q a b = elim a [ ]
refuses-one K (d ∷ ds) r q (refuses_here a) (refuses_here b) = one_form_refusal K d r q a b
refuses-one K (d ∷ ds) r q (refuses_here a) (refuses_behind_definition {x} b rest) = absurd (defined_not_refused K d x r b a)
refuses-one K (d ∷ ds) r q (refuses_here a) (refuses_behind_query {q = asked} b rest) = absurd (asked_not_refused K d asked r b a)
refuses-one K (d ∷ ds) r q (refuses_here a) (refuses_behind_passed b rest) = absurd (passed_not_refused K d r b a)
refuses-one K (d ∷ ds) r q (refuses_behind_definition {x} a more) (refuses_here b) = absurd (defined_not_refused K d x q a b)
refuses-one K (d ∷ ds) r q (refuses_behind_definition {x} a more) (refuses_behind_definition {x = y} b rest) =
    refuses-one (with_definition K y) ds r q (subst (λ (z : Defined). Refuses (with_definition K z) ds r) (one_definition K d x y a b) more) rest
refuses-one K (d ∷ ds) r q (refuses_behind_definition {x} a more) (refuses_behind_query {q = asked} b rest) = absurd (not_both K d x asked a.means b.means)
refuses-one K (d ∷ ds) r q (refuses_behind_definition {x} a more) (refuses_behind_passed b rest) = absurd (not_passed_defined K d x b a.means)
refuses-one K (d ∷ ds) r q (refuses_behind_query {q = asked} a more) (refuses_here b) = absurd (asked_not_refused K d asked q a b)
refuses-one K (d ∷ ds) r q (refuses_behind_query {q = asked} a more) (refuses_behind_definition {x} b rest) = absurd (not_both K d x asked b.means a.means)
refuses-one K (d ∷ ds) r q (refuses_behind_query a more) (refuses_behind_query b rest) = refuses-one K ds r q more rest
refuses-one K (d ∷ ds) r q (refuses_behind_query {q = asked} a more) (refuses_behind_passed b rest) = absurd (not_passed_asked K d asked b a.means)
refuses-one K (d ∷ ds) r q (refuses_behind_passed a more) (refuses_here b) = absurd (passed_not_refused K d q a b)
refuses-one K (d ∷ ds) r q (refuses_behind_passed a more) (refuses_behind_definition {x} b rest) = absurd (not_passed_defined K d x a b.means)
refuses-one K (d ∷ ds) r q (refuses_behind_passed a more) (refuses_behind_query {q = asked} b rest) = absurd (not_passed_asked K d asked a b.means)
refuses-one K (d ∷ ds) r q (refuses_behind_passed a more) (refuses_behind_passed b rest) = refuses-one K ds r q more rest

-- forms that are accepted are not refused
pub accepts-refuses : (K : Known) (ds : List Sexp) (J : Known) (qs : List Query) (r : Refusal) → Accepts K ds J qs → Refuses K ds r → ⊥
accepts-refuses K [] J qs r a b = elim b [ ]
accepts-refuses K (d ∷ ds) J qs r (accepts_definition {x} a more) (refuses_here b) = defined_not_refused K d x r a b
accepts-refuses K (d ∷ ds) J qs r (accepts_definition {x} a more) (refuses_behind_definition {x = y} b rest) =
    accepts-refuses (with_definition K y) ds J qs r (subst (λ (z : Defined). Accepts (with_definition K z) ds J qs) (one_definition K d x y a b) more) rest
accepts-refuses K (d ∷ ds) J qs r (accepts_definition {x} a more) (refuses_behind_query {q = asked} b rest) = not_both K d x asked a.means b.means
accepts-refuses K (d ∷ ds) J qs r (accepts_definition {x} a more) (refuses_behind_passed b rest) = not_passed_defined K d x b a.means
accepts-refuses K (d ∷ ds) J qs r (accepts_query {q} a more) (refuses_here b) = asked_not_refused K d q r a b
accepts-refuses K (d ∷ ds) J qs r (accepts_query {q} a more) (refuses_behind_definition {x} b rest) = not_both K d x q b.means a.means
accepts-refuses K (d ∷ ds) J qs r (accepts_query {q} {qs = more_qs} a more) (refuses_behind_query b rest) = accepts-refuses K ds J more_qs r more rest
accepts-refuses K (d ∷ ds) J qs r (accepts_query {q} a more) (refuses_behind_passed b rest) = not_passed_asked K d q b a.means
accepts-refuses K (d ∷ ds) J qs r (accepts_passed a more) (refuses_here b) = passed_not_refused K d r a b
accepts-refuses K (d ∷ ds) J qs r (accepts_passed a more) (refuses_behind_definition {x} b rest) = not_passed_defined K d x a b.means
accepts-refuses K (d ∷ ds) J qs r (accepts_passed a more) (refuses_behind_query {q = asked} b rest) = not_passed_asked K d asked a b.means
accepts-refuses K (d ∷ ds) J qs r (accepts_passed a more) (refuses_behind_passed b rest) = accepts-refuses K ds J qs r more rest

-- the scope stays
pub accepts-scope : (K : Known) (ds : List Sexp) (J : Known) (qs : List Query) → Accepts K ds J qs → J.scope ≡ K.scope
accepts-scope K [] J qs accepts_none = refl
accepts-scope K (d ∷ ds) J qs (accepts_definition {x} a more) = accepts-scope (with_definition K x) ds J qs more
accepts-scope K (d ∷ ds) J qs (accepts_query {qs = more_qs} a more) = accepts-scope K ds J more_qs more
accepts-scope K (d ∷ ds) J qs (accepts_passed a more) = accepts-scope K ds J qs more

-- so do the languages of judgements
pub accepts-languages : (K : Known) (ds : List Sexp) (J : Known) (qs : List Query) → Accepts K ds J qs → J.languages ≡ K.languages
accepts-languages K [] J qs accepts_none = refl
accepts-languages K (d ∷ ds) J qs (accepts_definition {x} a more) = accepts-languages (with_definition K x) ds J qs more
accepts-languages K (d ∷ ds) J qs (accepts_query {qs = more_qs} a more) = accepts-languages K ds J more_qs more
accepts-languages K (d ∷ ds) J qs (accepts_passed a more) = accepts-languages K ds J qs more

-- the nonterminals to which cross nonterminals are asked for
pub accepts-ends : (K : Known) (ds : List Sexp) (J : Known) (qs : List Query) → Accepts K ds J qs → J.ends ≡ K.ends
accepts-ends K [] J qs accepts_none = refl
accepts-ends K (d ∷ ds) J qs (accepts_definition {x} a more) = accepts-ends (with_definition K x) ds J qs more
accepts-ends K (d ∷ ds) J qs (accepts_query {qs = more_qs} a more) = accepts-ends K ds J more_qs more
accepts-ends K (d ∷ ds) J qs (accepts_passed a more) = accepts-ends K ds J qs more

-- and the binding forms of languages
pub accepts-forms : (K : Known) (ds : List Sexp) (J : Known) (qs : List Query) → Accepts K ds J qs → J.forms ≡ K.forms
accepts-forms K [] J qs accepts_none = refl
accepts-forms K (d ∷ ds) J qs (accepts_definition {x} a more) = accepts-forms (with_definition K x) ds J qs more
accepts-forms K (d ∷ ds) J qs (accepts_query {qs = more_qs} a more) = accepts-forms K ds J more_qs more
accepts-forms K (d ∷ ds) J qs (accepts_passed a more) = accepts-forms K ds J qs more

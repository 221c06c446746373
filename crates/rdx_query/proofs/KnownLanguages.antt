-- What a form defines speaks of nonterminals that it has, where it is a language.
use Rattle.std.proofs.Common.{◌≡◌, ℕ, List, [], Option, Some, None, refl, sym, ap, ◌∙◌, subst}
use Rattle.std.specs.Prelude.{option_map}
use Rattle.rdx_sexp.specs.Sexp.{Sexp}
use Rattle.rdx_lang.proofs.KnownCrosses.{KnowsAll}
use Rattle.rdx_lang.specs.Members.{In}
use Rattle.rdx_lang.specs.Patterns.{Language}
use Rattle.rdx_lang.specs.Programs.{language_among}
use Rattle.rdx_patterns.proofs.Firsts.{nothing, none_or}
use Rattle.rdx_grammar.proofs.KnownForms.{knows-language_over}
use Rattle.rdx_grammar.specs.Checks.{bad_patterns}
use Rattle.rdx_grammar.specs.Forms.{GrammarForm, language_form, extension_form}
use Rattle.rdx_grammar.specs.Languages.{empty_language, language_over}
use Rattle.rdx_grammar.specs.Nonterminals.{all_names}
use Rattle.rdx_patterns.specs.Parts.{text_of}
use Rattle.rdx_patterns.specs.Refusal.{unnamed}
use Rattle.rdx_grammar.specs.Refused.{shape_at, duplicate_at, bad_name_at, bad_pattern_at}
use Rattle.rdx_grammar.specs.Stands.{definitions_stand, form_stands}
use Rattle.rdx_patterns.specs.declared.shape.fault.DefKind.TheVariants.{BadPattern}
use Rattle.rdx_forms.specs.BindingParts.{binding_refusal, grammar_part}
use Rattle.rdx_forms.specs.DefineForms.{defined_relation}
use Rattle.rdx_forms.specs.Definitions.{Defined, language, metafunction, judgement, relation}
use Rattle.rdx_forms.specs.OneForm.{Defines}
use Rattle.rdx_forms.specs.FormKinds as kind
use Rattle.rdx_forms.specs.FormKinds.{FormKind, defines, asks, passes, form_kind}
use Rattle.rdx_forms.specs.Forms.{definition_by_kind, refusal_by_kind}
use Rattle.rdx_forms.specs.JudgementForms.{defined_judgement}
use Rattle.rdx_forms.specs.Known.{Known, or_empty}
use Rattle.rdx_forms.specs.LanguageForms.{base_name, named_base, unknown_at, taken_at, language_refusal, plain_refusal, plain_language, extension_refusal, extended_language}
use Rattle.rdx_forms.specs.MetafunctionForms.{defined_function}
use Rattle.rdx_forms.proofs.FoundByName.{language-among}
use Rattle.rdx_query.proofs.Reported.{none-reported}

-- each language speaks of its own nonterminals alone
abbrev pub KnowAll : List Language → Type 0
KnowAll Ls = (L : Language) → In L Ls → KnowsAll L

-- one that is found by its name does, or none is found
found-knows : (Ls : List Language) (x : List ℕ) → KnowAll Ls → (o : Option Language) → language_among Ls x ≡ o → KnowsAll (or_empty o)
found-knows Ls x k None e = refl
found-knows Ls x k (Some L) e = k L (language-among Ls x L e)

-- so the one that an extension extends does
base-knows : (K : Known) (o : Option Sexp) → KnowAll K.program.languages → KnowsAll (named_base K o)
base-knows K None k = refl
base-knows K (Some l) k = found-knows K.program.languages (text_of l) k (language_among K.program.languages (text_of l)) refl

-- what a function gives has what each of its values has
mapped-has : {A B : Type 0} (f : A → B) (P : B → Type 0) (o : Option A) (y : B) → ((x : A) → o ≡ Some x → P (f x)) → option_map f o ≡ Some y → P y
mapped-has f P None y g e = absurd cc
mapped-has f P (Some x) y g e = let h : f x ≡ y = cc in subst P h (g x refl)

-- what is defined does, where it is a language
abbrev Knows : Defined → Type 0
Knows (language L) = KnowsAll L
Knows (metafunction F) = Unit {0}
Knows (judgement J) = Unit {0}
Knows (relation R) = Unit {0}

-- where no check refuses a form that defines a language, none refuses a pattern in it
passed-patterns : (K : Known) (base : Language) (l0 : Option Sexp) (d : Sexp) (g : GrammarForm) → language_refusal K base l0 d (Some g) ≡ None
    → bad_patterns base (all_names base g.definitions) (definitions_stand g.definitions) ≡ []
passed-patterns K base l0 d g e =
    let ss = form_stands d (Some g) in
    let h = (none_or (shape_at ss) _ e).1 in
    let i = (none_or (unknown_at K l0) _ h).1 in
    let j = (none_or (taken_at K (Some g)) _ i).1 in
    let k = (none_or (duplicate_at ss) _ j).1 in
    let l = (none_or (bad_name_at ss) _ k).1 in
    let m = none_or (bad_pattern_at base (all_names base g.definitions) ss) _ l in
    nothing (unnamed BadPattern) (bad_patterns base (all_names base g.definitions) ss) m.0

-- the language of a form over a base
form-knows : (K : Known) (base : Language) (l0 : Option Sexp) (d : Sexp) (o : Option GrammarForm) (L : Language) → KnowsAll base
    → language_refusal K base l0 d o ≡ None → option_map (language_over base) o ≡ Some L → KnowsAll L
form-knows K base l0 d o L k p e =
    mapped-has (language_over base) KnowsAll o L
    (λ g f. knows-language_over base g k (passed-patterns K base l0 d g (ap (language_refusal K base l0 d) (sym f) ∙ p))) e

by_kind : (K : Known) (d : Sexp) (k : FormKind) (x : Defined) → KnowAll K.program.languages → refusal_by_kind K d k ≡ None
    → definition_by_kind K d k ≡ Some x → Knows x
by_kind K d (asks k) x a p m = absurd cc
by_kind K d (passes k) x a p m = absurd cc
by_kind K d (defines kind.language) x a p m =
    let c = grammar_part d in
    let q = (none-reported (plain_refusal K c) (binding_refusal d) p).0 in
    mapped-has language Knows (plain_language c) x (λ L e. form-knows K empty_language None c (language_form c) L refl q e) m
by_kind K d (defines kind.extension) x a p m =
    let c = grammar_part d in
    let q = (none-reported (extension_refusal K c) (binding_refusal d) p).0 in
    mapped-has language Knows (extended_language K c) x
    (λ L e. form-knows K (named_base K (base_name c)) (base_name c) c (extension_form c) L (base-knows K (base_name c) a) q e) m
by_kind K d (defines kind.metafunction) x a p m = mapped-has metafunction Knows (defined_function K d) x (λ F e. tt) m
by_kind K d (defines kind.judgement) x a p m = mapped-has judgement Knows (defined_judgement K d) x (λ J e. tt) m
by_kind K d (defines kind.relation) x a p m = mapped-has relation Knows (defined_relation K d) x (λ R e. tt) m

-- a language that a form defines speaks of its own nonterminals alone, where those that are known do
pub defines-knows : (K : Known) (d : Sexp) (L : Language) → KnowAll K.program.languages → Defines K d (language L) → KnowsAll L
defines-knows K d L k a = by_kind K d (form_kind d) (language L) k a.passes a.means

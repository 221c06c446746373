-- What forms name is known, and stays known.
use Rattle.std.proofs.Common.{◌≡◌, ◌⊎◌, inl, inr, ◌++◌, ℕ, Bool, true, false, List, [], ◌∷◌, Option, Some, None, map, refl, sym, ◌∙◌, ap, subst, if◌then◌else◌}
use Rattle.std.specs.Prelude.{not, is_some, bytes_eq, option_map, IsSome}
use Rattle.rdx_sexp.specs.Sexp.{Sexp}
use Rattle.rdx_lang.specs.Closures.{context_closure, compatible_closure}
use Rattle.rdx_lang.specs.Patterns.{Pattern, Language}
use Rattle.rdx_lang.proofs.Collecting.{only}
use Rattle.rdx_lang.proofs.MemberLaws.{in-append}
use Rattle.rdx_lang.specs.Members.{In}
use Rattle.rdx_lang.specs.Programs.{Judgement, Program, Relation, language_among, language_named, judgement_among, judgement_named, relation_among, relation_named}
use Rattle.rdx_lang.specs.Templates.{Host}
use Rattle.rdx_patterns.specs.Nonterminals.{names_of}
use Rattle.rdx_patterns.specs.Parts.{text_of}
use Rattle.rdx_patterns.specs.Occurrences.{occurrences}
use Rattle.rdx_patterns.specs.PatternRefusal.{keyword_at, bad_binder_at, bad_occurrence_at, depth_clash_at}
use Rattle.rdx_patterns.specs.PatternRefusal as pattern
use Rattle.rdx_patterns.specs.Reading.{reading}
use Rattle.rdx_patterns.specs.declared.patterns.position.Position.TheVariants as position
use Rattle.rdx_patterns.specs.PatternChecks.{when}
use Rattle.rdx_patterns.specs.Refusal.{Refusal, named, or_else, first_refusal}
use Rattle.rdx_patterns.specs.declared.shape.fault.DefKind.TheVariants.{UnknownName}
use Rattle.rdx_templates.specs.Earliest.{start}
use Rattle.rdx_parts.specs.Arguments.{is_misfit}
use Rattle.rdx_parts.specs.Headed.{Headed, headed}
use Rattle.rdx_defs.specs.JudgementForms.{JudgementForm, judgement_form}
use Rattle.rdx_defs.specs.JudgementReading.{judgement_reading}
use Rattle.rdx_defs.specs.JudgementRefusal.{result_stands}
use Rattle.rdx_defs.specs.JudgementStands.{judgement_stands}
use Rattle.rdx_relations.specs.RelationForms.{RelationForm, relation_form}
use Rattle.rdx_relations.specs.RelationReading.{relation_reading}
use Rattle.rdx_relations.specs.RelationStands.{relation_stands}
use Rattle.rdx_templates.specs.Scope.{Scope, mode_of}
use Rattle.rdx_parts.specs.StandChecks.{shape_at, repeated_name_at, bad_name_at, bad_place_at, depth_fault_at, unknown_names, unknown_name_at, undriven_at, escape_at, mode_fault_at}
use Rattle.rdx_parts.specs.Stands.{Stand, asked, misfits, arguments_stand, names_bound, premise_arguments, held_stands, bound_by_premise}
use Rattle.rdx_forms.specs.AlphaForms.{AlikeParts, PutParts, alike_parts, put_parts}
use Rattle.rdx_forms.specs.BindingParts.{grammar_part}
use Rattle.rdx_forms.specs.ClosureForms.{closed_relation, closure_names, closure_language_at, unknown_closed_at, closure_shape_at, no_nonterminal_at, context_refusal_by, context_relation_by, compatible_refusal_by, compatible_relation_by}
use Rattle.rdx_forms.specs.DefineForms.{define_refusal_by, defined_relation, kind_refusal, kind_relation, relation_by}
use Rattle.rdx_forms.specs.DefineParts.{DefineKind, by_cases, by_contexts, by_crosses, DefineParts, ClosureParts, define_parts, closure_parts, with_symbol}
use Rattle.rdx_forms.specs.Definitions.{Defined, language, metafunction, judgement, relation}
use Rattle.rdx_forms.specs.OneForm.{Defines, Asks}
use Rattle.rdx_forms.specs.FormKinds as kind
use Rattle.rdx_forms.specs.FormKinds.{FormKind, defines, asks, passes, form_kind}
use Rattle.rdx_forms.specs.Forms.{refusal_by_kind, definition_by_kind, query_by_kind}
use Rattle.rdx_forms.specs.GenerateForms.{GenerateParts, generate_parts, check_parts, language_in, names_over, pattern_stands, bound_over, host_stands, generate_shape_at, check_shape_at, check_depth_at, check_undriven_at, generate_refusal, check_refusal, generate_over, check_over}
use Rattle.rdx_forms.specs.HoldsForms.{HoldsParts, holds_parts, asked_names, asked_unknown_at, lone_parts, asked_premise, holds_refusal, holds_refusal_over, holds_by, holds_over, holds_test_by}
use Rattle.rdx_forms.specs.HostForms.{host_of_datum, bad_host_at, undriven_host_at, host_escape_at}
use Rattle.rdx_forms.specs.JudgementForms.{form_name, form_names, judgement_refusal_by, judgement_by, defined_judgement}
use Rattle.rdx_forms.specs.Known.{Known, empty_program, extended_by, known_as, with_definition}
use Rattle.rdx_forms.specs.LanguageForms.{named_base, name_taken_at, unknown_at, unknown_by, plain_language, extended_language}
use Rattle.rdx_forms.specs.MatchForms.{QueryParts, query_parts, query_shape_at, checked_parts, query_host, bad_query_at, query_escape_at, query_refusal, query_over}
use Rattle.rdx_forms.specs.MetafunctionForms.{function_taken_at, defined_function}
use Rattle.rdx_answer.specs.Bound.{forms_named}
use Rattle.rdx_answer.specs.Queries.{Query, matches, whether, splits, value, holds, reducts, tagged, stepper, generate, check, alike, substituted, test_equal, test_step, test_run, test_match, test_holds, test_results, KnowsRelation, KnowsJudgement, NamesKnown}
use Rattle.rdx_forms.specs.RelationForms.{define_shape_at, bad_relation_at, cases_refusal, relation_names, relation_language}
use Rattle.rdx_forms.specs.StepForms.{StepParts, step_parts, steps_shape_at, checked_steps, steps_host, unknown_relation_at, unknown_relation_by, steps_refusal}
use Rattle.rdx_forms.specs.TestForms.{EqualParts, LeadingParts, equal_parts, leading_parts, hosts_shape_at, bad_hosts_at, undriven_hosts_at, hosts_escape_at, unknown_tested_at, leading_refusal}
use Rattle.rdx_forms.proofs.ClosureChecks.{language-known, same-language}
use Rattle.rdx_query.proofs.DefinedJudgements.{judgements_in, mapped-some}
use Rattle.rdx_forms.proofs.FoundByName.{judgement-among}
use Rattle.rdx_patterns.proofs.Firsts.{none_or}
use Rattle.rdx_templates.proofs.EarliestPlaces.{earliest-none}

-- ---- names stay known

-- the same first, and what is known behind it stays known
known-by : {A : Type 0} (b : Bool) (x : A) (o p : Option A) → (is_some o ≡ true → is_some p ≡ true) → is_some (if b then Some x else o) ≡ true → is_some (if b then Some x else p) ≡ true
known-by true x o p f e = refl
known-by false x o p f e = f e

-- a name that is known stays known behind one more language
named-more : (Ls : List Language) (M : Language) (x : List ℕ) → is_some (language_among Ls x) ≡ true → is_some (language_among (Ls ++ M ∷ []) x) ≡ true
named-more [] M x e = absurd cc
named-more (L ∷ Ls) M x e = known-by (bytes_eq L.name x) L (language_among Ls x) (language_among (Ls ++ M ∷ []) x) (named-more Ls M x) e

-- the same first, and what is found behind it stays found
found-by : {A : Type 0} (b : Bool) (x y : A) (o p : Option A) → (o ≡ Some y → p ≡ Some y) → (if b then Some x else o) ≡ Some y → (if b then Some x else p) ≡ Some y
found-by true x y o p f e = e
found-by false x y o p f e = f e

-- a relation that is found stays found behind one more
found-more : (Rs : List Relation) (M R : Relation) (x : List ℕ) → relation_among Rs x ≡ Some R → relation_among (Rs ++ M ∷ []) x ≡ Some R
found-more [] M R x e = absurd cc
found-more (S ∷ Rs) M R x e = found-by (bytes_eq S.name x) S R (relation_among Rs x) (relation_among (Rs ++ M ∷ []) x) (found-more Rs M R x) e

-- a language that is known stays known behind whatever is defined
language-more : (P : Program) (x : Defined) (y : List ℕ) → IsSome (language_named P y) → IsSome (language_named (extended_by P x) y)
language-more P (language M) y e = named-more P.languages M y e
language-more P (metafunction F) y e = e
language-more P (judgement J) y e = e
language-more P (relation R) y e = e

-- so does a relation with its language
relation-more : (P : Program) (x : Defined) (y : List ℕ) → KnowsRelation P y → KnowsRelation (extended_by P x) y
relation-more P (language M) y k = record { relation = k.relation; named = k.named; language = named-more P.languages M k.relation.language k.language }
relation-more P (metafunction F) y k = record { relation = k.relation; named = k.named; language = k.language }
relation-more P (judgement J) y k = record { relation = k.relation; named = k.named; language = k.language }
relation-more P (relation R) y k = record { relation = k.relation; named = found-more P.relations R k.relation y k.named; language = k.language }

-- what a query names is known, but for a judgement, which may be defined behind the query: that the file has
abbrev pub IsAwaited : Known → Query → Type 0
IsAwaited K (matches name p h) = IsSome (language_named K.program name)
IsAwaited K (whether name p h) = IsSome (language_named K.program name)
IsAwaited K (splits name p h) = IsSome (language_named K.program name)
IsAwaited K (value h) = Unit {0}
IsAwaited K (holds q t) = IsSome (mode_of K.scope q.judgement)
IsAwaited K (reducts name h) = KnowsRelation K.program name
IsAwaited K (tagged name h) = KnowsRelation K.program name
IsAwaited K (stepper name h) = KnowsRelation K.program name
IsAwaited K (generate name p size seed) = IsSome (language_named K.program name)
IsAwaited K (check name p h attempts seed) = IsSome (language_named K.program name)
IsAwaited K (alike fs h k) = Unit {0}
IsAwaited K (substituted fs h k l) = Unit {0}
IsAwaited K (test_equal h k) = Unit {0}
IsAwaited K (test_step name h ks) = KnowsRelation K.program name
IsAwaited K (test_run name h ks) = KnowsRelation K.program name
IsAwaited K (test_match name p h wanted) = IsSome (language_named K.program name)
IsAwaited K (test_holds q) = IsSome (mode_of K.scope q.judgement)
IsAwaited K test_results = Unit {0}

-- so it stays
pub awaited-more : (K : Known) (x : Defined) (q : Query) → IsAwaited K q → IsAwaited (with_definition K x) q
awaited-more K x (matches name p h) e = language-more K.program (known_as K.ends x) name e
awaited-more K x (whether name p h) e = language-more K.program (known_as K.ends x) name e
awaited-more K x (splits name p h) e = language-more K.program (known_as K.ends x) name e
awaited-more K x (value h) e = tt
awaited-more K x (holds q t) e = e
awaited-more K x (reducts name h) e = relation-more K.program (known_as K.ends x) name e
awaited-more K x (tagged name h) e = relation-more K.program (known_as K.ends x) name e
awaited-more K x (stepper name h) e = relation-more K.program (known_as K.ends x) name e
awaited-more K x (generate name p size seed) e = language-more K.program (known_as K.ends x) name e
awaited-more K x (check name p h attempts seed) e = language-more K.program (known_as K.ends x) name e
awaited-more K x (alike fs h k) e = tt
awaited-more K x (substituted fs h k l) e = tt
awaited-more K x (test_equal h k) e = tt
awaited-more K x (test_step name h ks) e = relation-more K.program (known_as K.ends x) name e
awaited-more K x (test_run name h ks) e = relation-more K.program (known_as K.ends x) name e
awaited-more K x (test_match name p h wanted) e = language-more K.program (known_as K.ends x) name e
awaited-more K x (test_holds q) e = e
awaited-more K x test_results e = tt

-- ---- the language of each relation is known

-- the language of each relation that is found by its name
abbrev pub LanguagesKnown : Program → Type 0
LanguagesKnown P = (x : List ℕ) (R : Relation) → relation_named P x ≡ Some R → IsSome (language_named P R.language)

-- before the first form there is no relation
pub languages_known-nothing : LanguagesKnown empty_program
languages_known-nothing x R e = absurd cc

-- by a test, the relation or one behind it
last-by : (b : Bool) (S M R : Relation) (o p : Option Relation) → (p ≡ Some R → (o ≡ Some R) ⊎ (R ≡ M)) → (if b then Some S else p) ≡ Some R → ((if b then Some S else o) ≡ Some R) ⊎ (R ≡ M)
last-by true S M R o p f e = inl e
last-by false S M R o p f e = f e

-- by a test, the last one or none
only-by : (b : Bool) (M R : Relation) → (if b then Some M else None) ≡ Some R → R ≡ M
only-by true M R e = cc
only-by false M R e = absurd cc

-- what is found behind one more relation was found before, or is that one
found-last : (Rs : List Relation) (M R : Relation) (x : List ℕ) → relation_among (Rs ++ M ∷ []) x ≡ Some R → (relation_among Rs x ≡ Some R) ⊎ (R ≡ M)
found-last [] M R x e = inr (only-by (bytes_eq M.name x) M R e)
found-last (S ∷ Rs) M R x e = last-by (bytes_eq S.name x) S M R (relation_among Rs x) (relation_among (Rs ++ M ∷ []) x) (found-last Rs M R x) e

-- the language of what is defined is known, where it is a judgement or a relation
abbrev pub IsGrounded : Program → Defined → Type 0
IsGrounded P (language L) = Unit {0}
IsGrounded P (metafunction F) = Unit {0}
IsGrounded P (judgement J) = IsSome (language_named P J.language)
IsGrounded P (relation R) = IsSome (language_named P R.language)

-- with one more of what a form can define
pub languages_known-more : (P : Program) (x : Defined) → IsGrounded P x → LanguagesKnown P → LanguagesKnown (extended_by P x)
languages_known-more P (language M) g l x R e = named-more P.languages M R.language (l x R e)
languages_known-more P (metafunction F) g l x R e = l x R e
languages_known-more P (judgement J) g l x R e = l x R e
languages_known-more P (relation M) g l x R e = either (found-last P.relations M R x e)
  where
    either : (relation_among P.relations x ≡ Some R) ⊎ (R ≡ M) → IsSome (language_named P R.language)
    either (inl f) = l x R f
    either (inr f) = subst (λ (S : Relation). IsSome (language_named P S.language)) (sym f) g

-- ---- the language of each judgement is known

-- the language of each judgement
abbrev pub JudgementsKnown : Program → Type 0
JudgementsKnown P = (J : Judgement) → In J P.judgements → IsSome (language_named P J.language)

-- before the first form there is no judgement
pub judgements_known-nothing : JudgementsKnown empty_program
judgements_known-nothing J i = elim i [ ]

-- with one more of what a form can define
pub judgements_known-more : (P : Program) (x : Defined) → IsGrounded P x → JudgementsKnown P → JudgementsKnown (extended_by P x)
judgements_known-more P (language M) g l J i = named-more P.languages M J.language (l J i)
judgements_known-more P (metafunction F) g l J i = l J i
judgements_known-more P (judgement M) g l J i = either (in-append P.judgements (M ∷ []) J i)
  where
    either : In J P.judgements ⊎ In J (M ∷ []) → IsSome (language_named P J.language)
    either (inl j) = l J j
    either (inr j) = subst (λ (I : Judgement). IsSome (language_named P I.language)) (sym (only j)) g
judgements_known-more P (relation R) g l J i = l J i

-- a judgement that is found stays found before others
judgement-left : (Js Is : List Judgement) (x : List ℕ) → IsSome (judgement_among Js x) → IsSome (judgement_among (Js ++ Is) x)
judgement-left [] Is x e = absurd cc
judgement-left (J ∷ Js) Is x e = known-by (bytes_eq J.name x) J (judgement_among Js x) (judgement_among (Js ++ Is) x) (judgement-left Js Is x) e

-- some one is found behind others
behind-by : (b : Bool) (J : Judgement) (o : Option Judgement) → is_some o ≡ true → is_some (if b then Some J else o) ≡ true
behind-by true J o e = refl
behind-by false J o e = e

judgement-right : (Js Is : List Judgement) (x : List ℕ) → IsSome (judgement_among Is x) → IsSome (judgement_among (Js ++ Is) x)
judgement-right [] Is x e = e
judgement-right (J ∷ Js) Is x e = behind-by (bytes_eq J.name x) J (judgement_among (Js ++ Is) x) (judgement-right Js Is x e)

-- one that is known stays known behind whatever is defined
pub judgement-more : (P : Program) (x : Defined) (y : List ℕ) → IsSome (judgement_named P y) → IsSome (judgement_named (extended_by P x) y)
judgement-more P (language M) y e = e
judgement-more P (metafunction F) y e = e
judgement-more P (judgement J) y e = judgement-left P.judgements (J ∷ []) y e
judgement-more P (relation R) y e = e

-- so does one that is defined
pub judgement-new : (P : Program) (x : Defined) (y : List ℕ) → IsSome (judgement_among (judgements_in x) y) → IsSome (judgement_named (extended_by P x) y)
judgement-new P (language M) y e = absurd cc
judgement-new P (metafunction F) y e = absurd cc
judgement-new P (judgement J) y e = judgement-right P.judgements (J ∷ []) y e
judgement-new P (relation R) y e = absurd cc

-- its language is
knows-by : (P : Program) (x : List ℕ) (o : Option Judgement) → JudgementsKnown P → judgement_named P x ≡ o → is_some o ≡ true → KnowsJudgement P x
knows-by P x None l e f = absurd cc
knows-by P x (Some J) l e f = record { judgement = J; named = e; language = l J (judgement-among P.judgements x J e) }

-- all judgements of the scope are defined
abbrev pub HasJudgements : Known → Type 0
HasJudgements K = (x : List ℕ) → IsSome (mode_of K.scope x) → IsSome (judgement_named K.program x)

-- then all that a query names is known
pub awaited-known : (K : Known) (q : Query) → JudgementsKnown K.program → HasJudgements K → IsAwaited K q → NamesKnown K.program q
awaited-known K (matches name p h) l f a = a
awaited-known K (whether name p h) l f a = a
awaited-known K (splits name p h) l f a = a
awaited-known K (value h) l f a = tt
awaited-known K (holds q t) l f a = knows-by K.program q.judgement (judgement_named K.program q.judgement) l refl (f q.judgement a)
awaited-known K (reducts name h) l f a = a
awaited-known K (tagged name h) l f a = a
awaited-known K (stepper name h) l f a = a
awaited-known K (generate name p size seed) l f a = a
awaited-known K (check name p h attempts seed) l f a = a
awaited-known K (alike fs h k) l f a = tt
awaited-known K (substituted fs h k m) l f a = tt
awaited-known K (test_equal h k) l f a = tt
awaited-known K (test_step name h ks) l f a = a
awaited-known K (test_run name h ks) l f a = a
awaited-known K (test_match name p h wanted) l f a = a
awaited-known K (test_holds q) l f a = knows-by K.program q.judgement (judgement_named K.program q.judgement) l refl (f q.judgement a)
awaited-known K test_results l f a = tt

-- ---- what an accepted form names

-- a name that the check of languages lets pass is known
known-name : (o : Option Language) (l : Sexp) → unknown_by o l ≡ None → IsSome o
known-name None l e = absurd cc
known-name (Some L) l e = refl

-- a relation that the check of relations lets pass is known, and its language is
known-relation : (P : Program) (o : Option Relation) (r : Sexp) → LanguagesKnown P → relation_named P (text_of r) ≡ o → unknown_relation_by o r ≡ None → KnowsRelation P (text_of r)
known-relation P None r l f e = absurd cc
known-relation P (Some R) r l f e = record { relation = R; named = f; language = l (text_of r) R f }

-- the second check of a chain refuses nothing where none does
second-none : (a b o : Option Refusal) → or_else a (or_else b o) ≡ None → b ≡ None
second-none a b o e = (none_or b o (none_or a (or_else b o) e).1).0

-- none does behind the second
behind-two : (a b o : Option Refusal) → or_else a (or_else b o) ≡ None → o ≡ None
behind-two a b o e = (none_or b o (none_or a (or_else b o) e).1).1

-- nor does the third
third-none : (a b c o : Option Refusal) → or_else a (or_else b (or_else c o)) ≡ None → c ≡ None
third-none a b c o e = second-none b c o (none_or a (or_else b (or_else c o)) e).1

-- nor does the fourth
fourth-none : (a b c d o : Option Refusal) → or_else a (or_else b (or_else c (or_else d o))) ≡ None → d ≡ None
fourth-none a b c d o e = third-none b c d o (none_or a (or_else b (or_else c (or_else d o))) e).1

-- the language of an accepted query is known
query-known : (K : Known) (d : Sexp) (q : QueryParts) → query_refusal K d (Some q) ≡ None → IsSome (language_named K.program (text_of q.language))
query-known K d q e =
    let os = occurrences 0 q.pattern in
    let ps = query_host K (Some q) in
    let ns = names_of (named_base K (Some q.language)) in
    let last =
    first_refusal
    (bad_binder_at os ∷ bad_query_at ns os ps ∷ depth_clash_at ns os ∷ undriven_host_at K ps ∷ query_escape_at os ps ∷ [])
    in
    known-name (language_named K.program (text_of q.language)) q.language
    (second-none (query_shape_at d (checked_parts (Some q))) (unknown_at K (Some q.language)) last e)

-- a relation of an accepted form that asks for its steps is
steps-known : (K : Known) (d : Sexp) (q : StepParts) → LanguagesKnown K.program → steps_refusal K d (Some q) ≡ None → KnowsRelation K.program (text_of q.relation)
steps-known K d q l e =
    let ps = steps_host K (Some q) in
    let last = first_refusal (undriven_host_at K ps ∷ host_escape_at ps ∷ []) in
    known-relation K.program (relation_named K.program (text_of q.relation)) q.relation l refl
    (third-none (steps_shape_at d (checked_steps (Some q))) (bad_host_at ps) (unknown_relation_at K (Some q)) last e)

-- a query with a pattern, of any kind
by_query : (K : Known) (d : Sexp) (make : List ℕ → Pattern → Host → Query) (o : Option QueryParts) (r : Query)
    → ((q : QueryParts) → IsSome (language_named K.program (text_of q.language)) → IsAwaited K (query_over K make q))
    → query_refusal K d o ≡ None → option_map (query_over K make) o ≡ Some r → IsAwaited K r
by_query K d make None r f e m = absurd cc
by_query K d make (Some q) r f e m = let g : query_over K make q ≡ r = cc in subst (IsAwaited K) g (f q (query-known K d q e))

-- the language of a form that generates a term is known
generate-known : (K : Known) (d : Sexp) (q : GenerateParts) → generate_refusal K d (Some q) ≡ None → IsSome (language_named K.program (text_of q.language))
generate-known K d q e =
    let os = pattern_stands (Some q) in
    let ns = names_over K (Some q) in
    let last = first_refusal (bad_binder_at os ∷ bad_occurrence_at ns os ∷ depth_clash_at ns os ∷ pattern.escape_at os ∷ []) in
    known-name (language_named K.program (text_of q.language)) q.language
    (second-none (generate_shape_at d (Some q)) (unknown_at K (language_in (Some q))) last e)

-- so is that of one that checks a property
check-known : (K : Known) (d : Sexp) (q : GenerateParts) → check_refusal K d (Some q) ≡ None → IsSome (language_named K.program (text_of q.language))
check-known K d q e =
    let os = pattern_stands (Some q) in
    let ns = names_over K (Some q) in
    let bs = bound_over K (Some q) in
    let ps = host_stands K (Some q) in
    let last =
    first_refusal
    (bad_binder_at os ∷ or_else (bad_occurrence_at ns os) (bad_host_at ps) ∷ check_depth_at ns bs os ps ∷ check_undriven_at K bs ps
    ∷ or_else (pattern.escape_at os) (host_escape_at ps) ∷ [])
    in
    known-name (language_named K.program (text_of q.language)) q.language
    (second-none (check_shape_at d (Some q)) (unknown_at K (language_in (Some q))) last e)

-- a form that generates a term
by_generate : (K : Known) (d : Sexp) (o : Option GenerateParts) (r : Query) → generate_refusal K d o ≡ None → option_map (generate_over K) o ≡ Some r → IsAwaited K r
by_generate K d None r e m = absurd cc
by_generate K d (Some q) r e m = let g : generate_over K q ≡ r = cc in subst (IsAwaited K) g (generate-known K d q e)

-- one that checks a property
by_check : (K : Known) (d : Sexp) (o : Option GenerateParts) (r : Query) → check_refusal K d o ≡ None → option_map (check_over K) o ≡ Some r → IsAwaited K r
by_check K d None r e m = absurd cc
by_check K d (Some q) r e m = let g : check_over K q ≡ r = cc in subst (IsAwaited K) g (check-known K d q e)

-- a relation of an accepted test is
tested-known : (K : Known) (d : Sexp) (q : LeadingParts) → LanguagesKnown K.program → leading_refusal K d (Some q) ≡ None
    → KnowsRelation K.program (text_of q.relation)
tested-known K d q l e =
    let hs = q.from ∷ q.wanted in
    let last = first_refusal (undriven_hosts_at K hs ∷ hosts_escape_at K hs ∷ []) in
    known-relation K.program (relation_named K.program (text_of q.relation)) q.relation l refl
    (third-none (hosts_shape_at hs) (bad_hosts_at K hs) (unknown_tested_at K (Some q.relation)) last e)

-- a form that asks for steps, in any kind
by_steps : (K : Known) (d : Sexp) (make : StepParts → Query) (o : Option StepParts) (r : Query) → LanguagesKnown K.program → ((q : StepParts) → KnowsRelation K.program (text_of q.relation) → IsAwaited K (make q))
    → steps_refusal K d o ≡ None → option_map make o ≡ Some r → IsAwaited K r
by_steps K d make None r l f e m = absurd cc
by_steps K d make (Some q) r l f e m = let g : make q ≡ r = cc in subst (IsAwaited K) g (f q (steps-known K d q l e))

-- a test of a relation, in either kind
by_leading : (K : Known) (d : Sexp) (make : LeadingParts → Query) (o : Option LeadingParts) (r : Query) → LanguagesKnown K.program
    → ((q : LeadingParts) → KnowsRelation K.program (text_of q.relation) → IsAwaited K (make q))
    → leading_refusal K d o ≡ None → option_map make o ≡ Some r → IsAwaited K r
by_leading K d make None r l f e m = absurd cc
by_leading K d make (Some q) r l f e m = let g : make q ≡ r = cc in subst (IsAwaited K) g (f q (tested-known K d q l e))

-- a test of two host expressions
by_equal : (K : Known) (o : Option EqualParts) (r : Query)
    → option_map (λ (q : EqualParts). test_equal (host_of_datum K q.found) (host_of_datum K q.wanted)) o ≡ Some r → IsAwaited K r
by_equal K None r m = absurd cc
by_equal K (Some q) r m = let g : test_equal (host_of_datum K q.found) (host_of_datum K q.wanted) ≡ r = cc in subst (IsAwaited K) g tt

-- a question whether two terms are alpha equivalent
by_alike : (K : Known) (o : Option AlikeParts) (r : Query)
    → option_map (λ (q : AlikeParts). alike (forms_named K.forms (text_of q.language)) (host_of_datum K q.one) (host_of_datum K q.other)) o ≡ Some r
    → IsAwaited K r
by_alike K None r m = absurd cc
by_alike K (Some q) r m =
    let g : alike (forms_named K.forms (text_of q.language)) (host_of_datum K q.one) (host_of_datum K q.other) ≡ r = cc in
    subst (IsAwaited K) g tt

-- one for a term with another put for a symbol in it
by_put : (K : Known) (o : Option PutParts) (r : Query)
    → option_map
    (λ (q : PutParts). substituted (forms_named K.forms (text_of q.language)) (host_of_datum K q.whole) (host_of_datum K q.symbol) (host_of_datum K q.value))
    o ≡ Some r → IsAwaited K r
by_put K None r m = absurd cc
by_put K (Some q) r m =
    let g : substituted (forms_named K.forms (text_of q.language)) (host_of_datum K q.whole) (host_of_datum K q.symbol) (host_of_datum K q.value) ≡ r = cc in
    subst (IsAwaited K) g tt

-- a form that counts tests
by_results : (K : Known) (r : Query) → (let o : Option Query = Some test_results in o) ≡ Some r → IsAwaited K r
by_results K r m = let g : test_results ≡ r = cc in subst (IsAwaited K) g tt

-- a form that is a host expression
by_value : (K : Known) (h : Host) (r : Query) → (let o : Option Query = Some (value h) in o) ≡ Some r → IsAwaited K r
by_value K h r m = let g : value h ≡ r = cc in subst (IsAwaited K) g tt

-- a datum where a test holds, before others
none_when : (b : Bool) (d : Sexp) (ds : List Sexp) → when (not b) d ++ ds ≡ [] → b ≡ true
none_when true d ds e = refl
none_when false d ds e = absurd cc

-- the judgement of a premise in which S8 refuses nothing
asked-known : (S : Scope) (j : Sexp) (ss : List Stand) → unknown_name_at S (asked j ∷ ss) ≡ None → IsSome (mode_of S (text_of j))
asked-known S j ss e =
    none_when (is_some (mode_of S (text_of j))) j (unknown_names S ss) (earliest-none start (named UnknownName) (unknown_names S (asked j ∷ ss)) e)

-- an accepted form that makes this of a premise
by_premise : (K : Known) (d : Sexp) (h : HoldsParts) (make : Headed → Query) (o : Option Headed) (r : Query)
    → ((q : Headed) → IsSome (mode_of K.scope (text_of q.head)) → IsAwaited K (make q))
    → holds_refusal_over K d o (held_stands K.scope (asked_names K o) [] h.premise o ++ result_stands (bound_by_premise K.scope (asked_names K o) o) h.result) ≡ None
    → option_map make o ≡ Some r → IsAwaited K r
by_premise K d h make None r f e m = absurd cc
by_premise K d h make (Some q) r f e m =
    let ns = asked_names K (Some q) in
    let misfitting = misfits (is_misfit (mode_of K.scope (text_of q.head)) q.arguments) h.premise q.head in
    let behind = (misfitting ++ arguments_stand ns [] (names_bound []) (premise_arguments K.scope q)) ++ result_stands (bound_by_premise K.scope ns (Some q)) h.result in
    let ss = asked q.head ∷ behind in
    let last = or_else (undriven_at K.scope ss) (or_else (escape_at K.scope ss) (or_else (mode_fault_at ss) None)) in
    let late = or_else (bad_name_at ss) (or_else (bad_place_at K.scope ns ss) (or_else (depth_fault_at K.scope ns ss) (or_else (unknown_name_at K.scope ss) last))) in
    let n : unknown_name_at K.scope ss ≡ None =
    fourth-none (bad_name_at ss) (bad_place_at K.scope ns ss) (depth_fault_at K.scope ns ss) (unknown_name_at K.scope ss) last
    (behind-two (shape_at ss) (asked_unknown_at K (Some q)) late e)
    in
    let g : make q ≡ r = cc in
    subst (IsAwaited K) g (f q (asked-known K.scope q.head behind n))

-- one that asks whether it is met
by_holds : (K : Known) (d : Sexp) (o : Option HoldsParts) (r : Query) → holds_refusal K d o ≡ None → holds_by K o ≡ Some r → IsAwaited K r
by_holds K d None r e m = absurd cc
by_holds K d (Some h) r e m = by_premise K d h (holds_over K h.result) (headed h.premise) r (λ q s. s) e m

-- a test that it is
by_holds-test : (K : Known) (d : Sexp) (o : Option HoldsParts) (r : Query) → holds_refusal K d o ≡ None → holds_test_by K o ≡ Some r → IsAwaited K r
by_holds-test K d None r e m = absurd cc
by_holds-test K d (Some h) r e m = by_premise K d h (λ (q : Headed). test_holds (asked_premise K q)) (headed h.premise) r (λ q s. s) e m

-- what an accepted query names is known, or awaited
by_question : (K : Known) (d : Sexp) (k : FormKind) (q : Query) → LanguagesKnown K.program → refusal_by_kind K d k ≡ None → query_by_kind K d k ≡ Some q → IsAwaited K q
by_question K d (defines k) q l e m = absurd cc
by_question K d (asks kind.matches) q l e m = by_query K d matches (query_parts d) q (λ r s. s) e m
by_question K d (asks kind.whether) q l e m = by_query K d whether (query_parts d) q (λ r s. s) e m
by_question K d (asks kind.splits) q l e m = by_query K d splits (query_parts d) q (λ r s. s) e m
by_question K d (asks kind.value) q l e m = by_value K (host_of_datum K d) q m
by_question K d (asks kind.holds) q l e m = by_holds K d (holds_parts d) q e m
by_question K d (asks kind.reducts) q l e m = by_steps K d (λ r. reducts (text_of r.relation) (host_of_datum K r.host)) (step_parts d) q l (λ r s. s) e m
by_question K d (asks kind.tagged) q l e m = by_steps K d (λ r. tagged (text_of r.relation) (host_of_datum K r.host)) (step_parts d) q l (λ r s. s) e m
by_question K d (asks kind.stepper) q l e m = by_steps K d (λ r. stepper (text_of r.relation) (host_of_datum K r.host)) (step_parts d) q l (λ r s. s) e m
by_question K d (asks kind.generate) q l e m = by_generate K d (generate_parts d) q e m
by_question K d (asks kind.check) q l e m = by_check K d (check_parts d) q e m
by_question K d (asks kind.alike) q l e m = by_alike K (alike_parts d) q m
by_question K d (asks kind.put) q l e m = by_put K (put_parts d) q m
by_question K d (asks kind.test_equal) q l e m = by_equal K (equal_parts d) q m
by_question K d (asks kind.test_step) q l e m =
    by_leading K d (λ r. test_step (text_of r.relation) (host_of_datum K r.from) (map (host_of_datum K) r.wanted)) (leading_parts d) q l (λ r s. s) e m
by_question K d (asks kind.test_run) q l e m =
    by_leading K d (λ r. test_run (text_of r.relation) (host_of_datum K r.from) (map (host_of_datum K) r.wanted)) (leading_parts d) q l (λ r s. s) e m
by_question K d (asks kind.test_match) q l e m = by_query K d (λ name p h. test_match name p h true) (query_parts d) q (λ r s. s) e m
by_question K d (asks kind.test_no_match) q l e m = by_query K d (λ name p h. test_match name p h false) (query_parts d) q (λ r s. s) e m
by_question K d (asks kind.test_holds) q l e m = by_holds-test K d (lone_parts d) q e m
by_question K d (asks kind.test_results) q l e m = by_results K q m
by_question K d (passes k) q l e m = absurd cc

pub asks-awaited : (K : Known) (d : Sexp) (q : Query) → LanguagesKnown K.program → Asks K d q → IsAwaited K q
asks-awaited K d q l a = by_question K d (form_kind d) q l a.passes a.means

-- the language of a relation, by the parts of its list
by_form : (K : Known) (o : Option RelationForm) (ns : List (List ℕ)) (x : List ℕ) (R : Relation) → unknown_at K (option_map (λ (r : RelationForm). r.language) o) ≡ None → option_map (relation_reading K.scope ns x) o ≡ Some R
    → IsSome (language_named K.program R.language)
by_form K None ns x R e m = absurd cc
by_form K (Some r) ns x R e m =
    let f : relation_reading K.scope ns x r ≡ R = cc in
    subst (λ (S : Relation). IsSome (language_named K.program S.language)) f (known-name (language_named K.program (text_of r.language)) r.language e)

-- the check of its language refuses nothing
language-none : (K : Known) (d : Sexp) (q : DefineParts) → cases_refusal K d q ≡ None → unknown_at K (relation_language q) ≡ None
language-none K d q e =
    let ns = relation_names K q in
    let ss = relation_stands K.scope ns q.body (relation_form q.body) in
    let last =
    first_refusal
    (name_taken_at K q.name ∷ repeated_name_at ss ∷ bad_relation_at q.name ∷ bad_name_at ss ∷ bad_place_at K.scope ns ss
    ∷ depth_fault_at K.scope ns ss ∷ unknown_name_at K.scope ss ∷ undriven_at K.scope ss ∷ escape_at K.scope ss ∷ mode_fault_at ss ∷ [])
    in
    second-none (define_shape_at d q.rest ss) (unknown_at K (relation_language q)) last e

-- that of a closure is the one of the relation that is closed
by_closed : (K : Known) (c : ClosureParts) (f : Relation → Relation) (o : Option Relation) (R : Relation) → closed_relation K c ≡ o → closure_language_at K c ≡ None → ((S : Relation) → (f S).language ≡ S.language)
    → option_map f o ≡ Some R → IsSome (language_named K.program R.language)
by_closed K c f None R g e h m = absurd cc
by_closed K c f (Some S) R g e h m =
    let i : f S ≡ R = cc in
    let k : R.language ≡ text_of c.language = ap (λ (T : Relation). T.language) (sym i) ∙ h S ∙ same-language K c e S g in
    let n : language_named K.program R.language ≡ Some (language-known K c e).value = ap (language_named K.program) k ∙ (language-known K c e).is in
    subst (λ (l : Option Language). IsSome l) (sym n) refl

by_contexts-parts : (K : Known) (d : Sexp) (q : DefineParts) (o : Option ClosureParts) (R : Relation) → context_refusal_by K d q o ≡ None → context_relation_by K q o ≡ Some R → IsSome (language_named K.program R.language)
by_contexts-parts K d q None R e m = absurd cc
by_contexts-parts K d q (Some c) R e m =
    let ns = closure_names K c in
    let os = occurrences 0 c.by in
    let last : Option Refusal =
    first_refusal
    (name_taken_at K q.name ∷ bad_relation_at q.name ∷ bad_binder_at os ∷ bad_occurrence_at ns os ∷ depth_clash_at ns os ∷ unknown_closed_at K c
    ∷ pattern.escape_at os ∷ [])
    in
    by_closed K c (context_closure (reading ns position.Query c.by) (text_of q.name)) (closed_relation K c) R refl
    (third-none (closure_shape_at d q.body q.rest (Some c)) (keyword_at os) (closure_language_at K c) last e)
    (λ S. refl) m

by_crosses-parts : (K : Known) (d : Sexp) (q : DefineParts) (o : Option ClosureParts) (R : Relation) → compatible_refusal_by K d q o ≡ None → compatible_relation_by K q o ≡ Some R → IsSome (language_named K.program R.language)
by_crosses-parts K d q None R e m = absurd cc
by_crosses-parts K d q (Some c) R e m =
    let last : Option Refusal =
    first_refusal (name_taken_at K q.name ∷ bad_relation_at q.name ∷ no_nonterminal_at (closure_names K c) c.by ∷ unknown_closed_at K c ∷ []) in
    by_closed K c (compatible_closure (text_of c.by) (text_of q.name)) (closed_relation K c) R refl
    (second-none (closure_shape_at d q.body q.rest (Some c)) (closure_language_at K c) last e)
    (λ S. refl) m

-- by what the list says
by_kind : (K : Known) (d : Sexp) (q : DefineParts) (k : DefineKind) (R : Relation) → kind_refusal K d q k ≡ None → kind_relation K q k ≡ Some R → IsSome (language_named K.program R.language)
by_kind K d q by_cases R e m = by_form K (relation_form q.body) (relation_names K q) (text_of q.name) R (language-none K d q e) m
by_kind K d q by_contexts R e m = by_contexts-parts K d q (closure_parts q.body) R e m
by_kind K d q by_crosses R e m = by_crosses-parts K d q (with_symbol (closure_parts q.body)) R e m

-- by the parts of the form
by_define : (K : Known) (d : Sexp) (o : Option DefineParts) (R : Relation) → define_refusal_by K d o ≡ None → relation_by K o ≡ Some R → IsSome (language_named K.program R.language)
by_define K d None R e m = absurd cc
by_define K d (Some q) R e m = by_kind K d q q.kind R e m

-- the language of a judgement, by the parts of the form
by_judgement : (K : Known) (d : Sexp) (o : Option JudgementForm) (J : Judgement) → judgement_refusal_by K d o ≡ None → judgement_by K o ≡ Some J → IsSome (language_named K.program J.language)
by_judgement K d None J e m = absurd cc
by_judgement K d (Some f) J e m =
    let ns = form_names K (Some f) in
    let ss = judgement_stands K.scope ns d (Some f) in
    let last =
    first_refusal
    (function_taken_at K (form_name (Some f)) ∷ repeated_name_at ss ∷ bad_name_at ss ∷ bad_place_at K.scope ns ss ∷ depth_fault_at K.scope ns ss
    ∷ unknown_name_at K.scope ss ∷ undriven_at K.scope ss ∷ escape_at K.scope ss ∷ mode_fault_at ss ∷ [])
    in
    let g : judgement_reading K.scope ns f ≡ J = cc in
    subst (λ (I : Judgement). IsSome (language_named K.program I.language)) g
    (known-name (language_named K.program (text_of f.language)) f.language (second-none (shape_at ss) (unknown_at K (Some f.language)) last e))

by_definition : (K : Known) (d : Sexp) (k : FormKind) (x : Defined) → refusal_by_kind K d k ≡ None → definition_by_kind K d k ≡ Some x → IsGrounded K.program x
by_definition K d (asks k) x e m = absurd cc
by_definition K d (passes k) x e m = absurd cc
by_definition K d (defines kind.language) x e m = mapped-some language (plain_language (grammar_part d)) x m (IsGrounded K.program) (λ L f. tt)
by_definition K d (defines kind.extension) x e m = mapped-some language (extended_language K (grammar_part d)) x m (IsGrounded K.program) (λ L f. tt)
by_definition K d (defines kind.metafunction) x e m = mapped-some metafunction (defined_function K d) x m (IsGrounded K.program) (λ F f. tt)
by_definition K d (defines kind.judgement) x e m =
    mapped-some judgement (defined_judgement K d) x m (IsGrounded K.program) (λ J f. by_judgement K d (judgement_form d) J e f)
by_definition K d (defines kind.relation) x e m =
    mapped-some relation (defined_relation K d) x m (IsGrounded K.program) (λ R f. by_define K d (define_parts d) R e f)

pub defines-known : (K : Known) (d : Sexp) (x : Defined) → Defines K d x → IsGrounded K.program x
defines-known K d x a = by_definition K d (form_kind d) x a.passes a.means

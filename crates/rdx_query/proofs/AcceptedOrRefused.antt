-- Each form of a file is accepted or refused, and so is the file.
use Rattle.std.proofs.Common.{◌≡◌, ◌++◌, ℕ, ◌⊎◌, inl, inr, List, [], ◌∷◌, Option, Some, None, true, false, map, refl, ◌∙◌, ap, subst}
use Rattle.rdx_sexp.specs.Sexp.{Sexp}
use Rattle.rdx_lang.specs.Closures.{context_closure, compatible_closure}
use Rattle.rdx_lang.specs.Edges.{IsFree}
use Rattle.rdx_lang.specs.Laws.{HasFirstRecursive, FreeOrRecursive}
use Rattle.rdx_lang.specs.Patterns.{Language}
use Rattle.rdx_lang.specs.Programs.{Relation}
use Rattle.rdx_grammar.specs.Forms.{GrammarForm, language_form, extension_form}
use Rattle.rdx_grammar.specs.Languages.{empty_language, language_over}
use Rattle.rdx_patterns.specs.Occurrences.{occurrences}
use Rattle.rdx_patterns.specs.Parts.{text_of}
use Rattle.rdx_patterns.specs.PatternRefusal.{keyword_at, bad_binder_at, bad_occurrence_at, depth_clash_at, escape_at}
use Rattle.rdx_patterns.specs.Reading.{reading}
use Rattle.rdx_patterns.specs.Refusal.{Refusal, unnamed, or_else, first_refusal}
use Rattle.rdx_grammar.specs.Refused.{recursion_at}
use Rattle.rdx_patterns.specs.declared.shape.fault.DefKind.TheVariants.{Shape}
use Rattle.rdx_patterns.specs.declared.patterns.position.Position.TheVariants as position
use Rattle.rdx_templates.specs.Earliest.{start}
use Rattle.rdx_parts.specs.Headed.{Headed, headed}
use Rattle.rdx_defs.specs.JudgementForms.{JudgementForm, judgement_form}
use Rattle.rdx_defs.specs.JudgementReading.{judgement_reading}
use Rattle.rdx_defs.specs.JudgementRefusal.{result_stands}
use Rattle.rdx_defs.specs.MetafunctionForms.{MetafunctionForm, metafunction_form}
use Rattle.rdx_defs.specs.MetafunctionReading.{metafunction_reading}
use Rattle.rdx_relations.specs.RelationForms.{RelationForm, relation_form}
use Rattle.rdx_relations.specs.RelationReading.{relation_reading}
use Rattle.rdx_relations.specs.RelationStands.{relation_stands}
use Rattle.rdx_parts.specs.StandChecks.{shape_faults, shape_at, bad_name_at, bad_place_at, depth_fault_at, unknown_name_at, undriven_at, escape_at as stands_escape_at, mode_fault_at}
use Rattle.rdx_parts.specs.Stands.{misshaped, held_stands, bound_by_premise}
use Rattle.rdx_forms.specs.AlphaForms.{AlikeParts, PutParts, alike_parts, put_parts, alike_refusal, put_refusal}
use Rattle.rdx_forms.specs.BindingParts.{binding_refusal, grammar_part}
use Rattle.rdx_forms.specs.ClosureForms.{closed_relation, closure_names, closure_language_at, unknown_closed_at, closure_shape_at, no_nonterminal_at, misshaped_refusal, context_refusal_by, context_relation_by, compatible_refusal_by, compatible_relation_by}
use Rattle.rdx_forms.specs.DefineForms.{define_refusal_by, defined_relation, kind_refusal, kind_relation, relation_by}
use Rattle.rdx_forms.specs.DefineParts.{DefineKind, by_cases, by_contexts, by_crosses, DefineParts, ClosureParts, define_parts, closure_parts, with_symbol}
use Rattle.rdx_forms.specs.Definitions.{Defined, language, metafunction, judgement, relation, IsSound}
use Rattle.rdx_forms.specs.OneForm.{Defines, Asks, IsPassedOver, IsRefusedForm, by_check, by_recursion, by_late_check}
use Rattle.rdx_query.specs.File.{Accepts, accepts_none, accepts_definition, accepts_query, accepts_passed, Refuses, refuses_here, refuses_behind_definition, refuses_behind_query, refuses_behind_passed, IsFile}
use Rattle.rdx_forms.specs.Before.{known_before}
use Rattle.rdx_forms.specs.FormKinds.{DefinitionKind, QueryKind, FormKind, defines, asks, passes, form_kind}
use Rattle.rdx_forms.specs.FormKinds as kind
use Rattle.rdx_forms.specs.Forms.{form_refusal, late_refusal, form_definition, refusal_by_kind, definition_by_kind, query_by_kind, is_passed_kind, definition_refusal, definition_of, question_refusal, asked_query}
use Rattle.rdx_forms.specs.HoldsForms.{HoldsParts, holds_parts, lone_parts, asked_names, asked_premise, holds_refusal, holds_refusal_over, holds_by, holds_over, holds_test_by}
use Rattle.rdx_forms.specs.HostForms.{host_of_datum, value_query}
use Rattle.rdx_forms.specs.JudgementForms.{form_names, judgement_refusal_by, defined_judgement}
use Rattle.rdx_forms.specs.GenerateForms.{GenerateParts, generate_parts, check_parts, generate_refusal, check_refusal, generate_over, check_over}
use Rattle.rdx_forms.specs.Known.{Known, with_definition}
use Rattle.rdx_forms.specs.LanguageForms.{base_name, named_base, name_taken_at, language_refusal, plain_refusal, plain_language, extension_refusal, extended_language}
use Rattle.rdx_query.specs.Laws.{AreAccepted, AreRefused}
use Rattle.rdx_forms.specs.MatchForms.{QueryParts, query_parts, query_refusal, query_over}
use Rattle.rdx_forms.specs.MetafunctionForms.{function_names, function_refusal_by, defined_function}
use Rattle.rdx_answer.specs.Bound.{forms_named}
use Rattle.rdx_answer.specs.Queries.{Query, matches, whether, splits, reducts, tagged, stepper, alike, substituted, test_equal, test_step, test_run, test_match, test_holds, test_results}
use Rattle.rdx_forms.specs.RelationForms.{relation_names, cases_refusal_over, bad_relation_at}
use Rattle.rdx_forms.specs.StepForms.{StepParts, step_parts, steps_refusal}
use Rattle.rdx_forms.specs.TestForms.{EqualParts, LeadingParts, equal_parts, leading_parts, equal_refusal, leading_refusal}
use Rattle.rdx_patterns.proofs.Firsts.{none_or}
use Rattle.rdx_templates.proofs.EarliestPlaces.{earliest-none}
use Rattle.rdx_forms.proofs.CheckNumbers.{none-at}
use Rattle.rdx_forms.proofs.FoundByName.{HasValue, mapped, relation-found}
use Rattle.rdx_query.proofs.Reported.{none-reported}
use Rattle.rdx_query.proofs.OneReading.{accepts-scope, accepts-languages, accepts-ends, accepts-forms}

-- ---- what passes has its parts

-- a form that defines a language has the parts of one
language-parts : (K : Known) (base : Language) (l0 : Option Sexp) (d : Sexp) (g : Option GrammarForm) → language_refusal K base l0 d g ≡ None → HasValue GrammarForm g
language-parts K base l0 d None e = absurd cc
language-parts K base l0 d (Some g) e = record { value = g; is = refl }

-- a form that defines a relation by cases has a list with the parts of one
list-parts : (K : Known) (d : Sexp) (q : DefineParts) (ns : List (List ℕ)) (o : Option RelationForm) → cases_refusal_over K d q ns (relation_stands K.scope ns q.body o) ≡ None → HasValue RelationForm o
list-parts K d q ns None e = by_rest q.rest e
  where
    by_rest : (ds : List Sexp) → cases_refusal_over K d (record { kind = q.kind; name = q.name; body = q.body; rest = ds }) ns (relation_stands K.scope ns q.body None) ≡ None → HasValue RelationForm None
    by_rest [] f = absurd cc
    by_rest (c ∷ ds) f = absurd cc
list-parts K d q ns (Some r) e = record { value = r; is = refl }

-- one that defines a closure has the parts of one
has_parts : (d : Sexp) (q : DefineParts) → misshaped_refusal d q ≡ None → ⊥
has_parts d q e = by_rest q.rest e
  where
    by_rest : (ds : List Sexp) → closure_shape_at d q.body ds None ≡ None → ⊥
    by_rest [] f = absurd cc
    by_rest (c ∷ ds) f = absurd cc

-- and closes a relation that is known
context-parts : (K : Known) (d : Sexp) (q : DefineParts) (o : Option ClosureParts) → context_refusal_by K d q o ≡ None → HasValue Relation (context_relation_by K q o)
context-parts K d q None e = absurd (has_parts d q e)
context-parts K d q (Some c) e =
    let ns = closure_names K c in
    let os = occurrences 0 c.by in
    let checks : List (Option Refusal) =
    closure_shape_at d q.body q.rest (Some c) ∷ keyword_at os ∷ closure_language_at K c ∷ name_taken_at K q.name ∷ bad_relation_at q.name
    ∷ bad_binder_at os ∷ bad_occurrence_at ns os ∷ depth_clash_at ns os ∷ unknown_closed_at K c ∷ escape_at os ∷ []
    in
    mapped (context_closure (reading ns position.Query c.by) (text_of q.name)) (closed_relation K c)
    (relation-found (closed_relation K c) c.relation (none-at 8 checks e))

compatible-parts : (K : Known) (d : Sexp) (q : DefineParts) (o : Option ClosureParts) → compatible_refusal_by K d q o ≡ None → HasValue Relation (compatible_relation_by K q o)
compatible-parts K d q None e = absurd (has_parts d q e)
compatible-parts K d q (Some c) e =
    let checks : List (Option Refusal) =
    closure_shape_at d q.body q.rest (Some c) ∷ closure_language_at K c ∷ name_taken_at K q.name ∷ bad_relation_at q.name
    ∷ no_nonterminal_at (closure_names K c) c.by ∷ unknown_closed_at K c ∷ []
    in
    mapped (compatible_closure (text_of c.by) (text_of q.name)) (closed_relation K c)
    (relation-found (closed_relation K c) c.relation (none-at 5 checks e))

-- so a form that defines a relation has the parts of one, whatever its list says
kind-parts : (K : Known) (d : Sexp) (q : DefineParts) (k : DefineKind) → kind_refusal K d q k ≡ None → HasValue Relation (kind_relation K q k)
kind-parts K d q by_cases e =
    mapped (relation_reading K.scope (relation_names K q) (text_of q.name)) (relation_form q.body) (list-parts K d q (relation_names K q) (relation_form q.body) e)
kind-parts K d q by_contexts e = context-parts K d q (closure_parts q.body) e
kind-parts K d q by_crosses e = compatible-parts K d q (with_symbol (closure_parts q.body)) e

relation-parts : (K : Known) (d : Sexp) (o : Option DefineParts) → define_refusal_by K d o ≡ None → HasValue Relation (relation_by K o)
relation-parts K d None e = absurd cc
relation-parts K d (Some q) e = kind-parts K d q q.kind e

-- so does one that defines a metafunction
function-parts : (K : Known) (d : Sexp) (o : Option MetafunctionForm) → function_refusal_by K d o ≡ None → HasValue MetafunctionForm o
function-parts K d None e = absurd cc
function-parts K d (Some m) e = record { value = m; is = refl }

-- or a judgement
judgement-parts : (K : Known) (d : Sexp) (o : Option JudgementForm) → judgement_refusal_by K d o ≡ None → HasValue JudgementForm o
judgement-parts K d None e = absurd cc
judgement-parts K d (Some f) e = record { value = f; is = refl }

-- so it defines something
definition-means : (K : Known) (d : Sexp) (k : DefinitionKind) → definition_refusal K d k ≡ None → HasValue Defined (definition_of K d k)
definition-means K d kind.language e =
    let c = grammar_part d in
    let q = (none-reported (plain_refusal K c) (binding_refusal d) e).0 in
    mapped language (plain_language c) (mapped (language_over empty_language) (language_form c) (language-parts K empty_language None c (language_form c) q))
definition-means K d kind.extension e =
    let c = grammar_part d in
    let base = named_base K (base_name c) in
    let q = (none-reported (extension_refusal K c) (binding_refusal d) e).0 in
    mapped language (extended_language K c) (mapped (language_over base) (extension_form c) (language-parts K base (base_name c) c (extension_form c) q))
definition-means K d kind.metafunction e =
    mapped metafunction (defined_function K d)
    (mapped (metafunction_reading K.scope (function_names K (metafunction_form d))) (metafunction_form d) (function-parts K d (metafunction_form d) e))
definition-means K d kind.judgement e =
    mapped judgement (defined_judgement K d)
    (mapped (judgement_reading K.scope (form_names K (judgement_form d))) (judgement_form d) (judgement-parts K d (judgement_form d) e))
definition-means K d kind.relation e = mapped relation (defined_relation K d) (relation-parts K d (define_parts d) e)

-- a query has the parts of one
query-parts : (K : Known) (d : Sexp) (q : Option QueryParts) → query_refusal K d q ≡ None → HasValue QueryParts q
query-parts K d None e = absurd cc
query-parts K d (Some q) e = record { value = q; is = refl }

-- so has a form that asks for steps
step-parts : (K : Known) (d : Sexp) (q : Option StepParts) → steps_refusal K d q ≡ None → HasValue StepParts q
step-parts K d None e = absurd cc
step-parts K d (Some q) e = record { value = q; is = refl }

-- so has a form that generates a term
generate-parts : (K : Known) (d : Sexp) (q : Option GenerateParts) → generate_refusal K d q ≡ None → HasValue GenerateParts q
generate-parts K d None e = absurd cc
generate-parts K d (Some q) e = record { value = q; is = refl }

-- or checks a property
check-parts : (K : Known) (d : Sexp) (q : Option GenerateParts) → check_refusal K d q ≡ None → HasValue GenerateParts q
check-parts K d None e = absurd cc
check-parts K d (Some q) e = record { value = q; is = refl }

-- so have tests of host expressions
equal-parts : (K : Known) (d : Sexp) (q : Option EqualParts) → equal_refusal K d q ≡ None → HasValue EqualParts q
equal-parts K d None e = absurd cc
equal-parts K d (Some q) e = record { value = q; is = refl }

alike-parts : (K : Known) (d : Sexp) (q : Option AlikeParts) → alike_refusal K d q ≡ None → HasValue AlikeParts q
alike-parts K d None e = absurd cc
alike-parts K d (Some q) e = record { value = q; is = refl }

put-parts : (K : Known) (d : Sexp) (q : Option PutParts) → put_refusal K d q ≡ None → HasValue PutParts q
put-parts K d None e = absurd cc
put-parts K d (Some q) e = record { value = q; is = refl }

leading-parts : (K : Known) (d : Sexp) (q : Option LeadingParts) → leading_refusal K d q ≡ None → HasValue LeadingParts q
leading-parts K d None e = absurd cc
leading-parts K d (Some q) e = record { value = q; is = refl }

-- so has one that asks whether a premise is met, and so has the premise
premise-parts : (K : Known) (d : Sexp) (h : HoldsParts) (o : Option Headed)
    → holds_refusal_over K d o (held_stands K.scope (asked_names K o) [] h.premise o ++ result_stands (bound_by_premise K.scope (asked_names K o) o) h.result) ≡ None
    → HasValue Headed o
premise-parts K d h None e =
    let ns = asked_names K None in
    let behind = result_stands (bound_by_premise K.scope ns None) h.result in
    let ss = misshaped h.premise ∷ behind in
    let last = first_refusal (unknown_name_at K.scope ss ∷ undriven_at K.scope ss ∷ stands_escape_at K.scope ss ∷ mode_fault_at ss ∷ []) in
    let late = or_else (bad_name_at ss) (or_else (bad_place_at K.scope ns ss) (or_else (depth_fault_at K.scope ns ss) last)) in
    let shaped : shape_at ss ≡ None = (none_or (shape_at ss) late e).0 in
    let none : h.premise ∷ shape_faults behind ≡ [] = earliest-none start (unnamed Shape) (shape_faults ss) shaped in
    absurd cc
premise-parts K d h (Some q) e = record { value = q; is = refl }

holds-parts : (K : Known) (d : Sexp) (o : Option HoldsParts) → holds_refusal K d o ≡ None → HasValue Query (holds_by K o)
holds-parts K d None e = absurd cc
holds-parts K d (Some h) e = mapped (holds_over K h.result) (headed h.premise) (premise-parts K d h (headed h.premise) e)

-- and a test that it is
holds-test-parts : (K : Known) (d : Sexp) (o : Option HoldsParts) → holds_refusal K d o ≡ None → HasValue Query (holds_test_by K o)
holds-test-parts K d None e = absurd cc
holds-test-parts K d (Some h) e = mapped (λ (q : Headed). test_holds (asked_premise K q)) (headed h.premise) (premise-parts K d h (headed h.premise) e)

-- so it asks something, as a host expression does anyway
question-means : (K : Known) (d : Sexp) (k : QueryKind) → question_refusal K d k ≡ None → HasValue Query (asked_query K d k)
question-means K d kind.matches e = mapped (query_over K matches) (query_parts d) (query-parts K d (query_parts d) e)
question-means K d kind.whether e = mapped (query_over K whether) (query_parts d) (query-parts K d (query_parts d) e)
question-means K d kind.splits e = mapped (query_over K splits) (query_parts d) (query-parts K d (query_parts d) e)
question-means K d kind.value e = record { value = value_query K d; is = refl }
question-means K d kind.holds e = holds-parts K d (holds_parts d) e
question-means K d kind.reducts e =
    mapped (λ (q : StepParts). reducts (text_of q.relation) (host_of_datum K q.host)) (step_parts d) (step-parts K d (step_parts d) e)
question-means K d kind.tagged e =
    mapped (λ (q : StepParts). tagged (text_of q.relation) (host_of_datum K q.host)) (step_parts d) (step-parts K d (step_parts d) e)
question-means K d kind.stepper e =
    mapped (λ (q : StepParts). stepper (text_of q.relation) (host_of_datum K q.host)) (step_parts d) (step-parts K d (step_parts d) e)
question-means K d kind.generate e = mapped (generate_over K) (generate_parts d) (generate-parts K d (generate_parts d) e)
question-means K d kind.check e = mapped (check_over K) (check_parts d) (check-parts K d (check_parts d) e)
question-means K d kind.alike e =
    mapped (λ (q : AlikeParts). alike (forms_named K.forms (text_of q.language)) (host_of_datum K q.one) (host_of_datum K q.other)) (alike_parts d)
    (alike-parts K d (alike_parts d) e)
question-means K d kind.put e =
    mapped
    (λ (q : PutParts). substituted (forms_named K.forms (text_of q.language)) (host_of_datum K q.whole) (host_of_datum K q.symbol) (host_of_datum K q.value))
    (put_parts d) (put-parts K d (put_parts d) e)
question-means K d kind.test_equal e =
    mapped (λ (q : EqualParts). test_equal (host_of_datum K q.found) (host_of_datum K q.wanted)) (equal_parts d) (equal-parts K d (equal_parts d) e)
question-means K d kind.test_step e =
    mapped (λ (q : LeadingParts). test_step (text_of q.relation) (host_of_datum K q.from) (map (host_of_datum K) q.wanted)) (leading_parts d)
    (leading-parts K d (leading_parts d) e)
question-means K d kind.test_run e =
    mapped (λ (q : LeadingParts). test_run (text_of q.relation) (host_of_datum K q.from) (map (host_of_datum K) q.wanted)) (leading_parts d)
    (leading-parts K d (leading_parts d) e)
question-means K d kind.test_match e = mapped (query_over K (λ name p h. test_match name p h true)) (query_parts d) (query-parts K d (query_parts d) e)
question-means K d kind.test_no_match e = mapped (query_over K (λ name p h. test_match name p h false)) (query_parts d) (query-parts K d (query_parts d) e)
question-means K d kind.test_holds e = holds-test-parts K d (lone_parts d) e
question-means K d kind.test_results e = record { value = test_results; is = refl }

-- ---- forms

-- what becomes of a form
data Outcome (K : Known) (d : Sexp) : Type 0 where
  defined : (x : Defined) → Defines K d x → Outcome K d
  asked : (q : Query) → Asks K d q → Outcome K d
  passed : IsPassedOver K d → Outcome K d
  refused : (r : Refusal) → IsRefusedForm K d r → Outcome K d

-- what the form defines is sound, so it passes the check behind that, or the form is refused
by_late : (K : Known) (d : Sexp) (x : Defined) → form_refusal K d ≡ None → form_definition K d ≡ Some x → IsSound x → (o : Option Refusal) → late_refusal d ≡ o → Outcome K d
by_late K d x p m s None e = defined x (record { passes = p; means = m; sound = s; passes_late = e })
by_late K d x p m s (Some r) e = refused r (by_late_check x p m s e)

-- a language that the form defines is free of left recursion, or the form is refused
by_freedom : (K : Known) (d : Sexp) (L : Language) → form_refusal K d ≡ None → form_definition K d ≡ Some (language L) → IsFree L ⊎ HasFirstRecursive L → Outcome K d
by_freedom K d L p m (inl f) = by_late K d (language L) p m f (late_refusal d) refl
by_freedom K d L p m (inr h) = refused (recursion_at (grammar_part d) h.nonterminal) (by_recursion L h.nonterminal p m h.is_first refl)

-- ---- files

-- behind forms that define K, the data are accepted
record AcceptedBehind (K : Known) (ds : List Sexp) : Type 0 where
  pub known : Known
  pub queries : List Query
  pub accepted : Accepts K ds known queries

-- or refused
record RefusedBehind (K : Known) (ds : List Sexp) : Type 0 where
  pub refusal : Refusal
  pub refused : Refuses K ds refusal

-- a form that defines something
behind_definition : (K : Known) (d : Sexp) (ds : List Sexp) (x : Defined) → Defines K d x → AcceptedBehind (with_definition K x) ds ⊎ RefusedBehind (with_definition K x) ds
    → AcceptedBehind K (d ∷ ds) ⊎ RefusedBehind K (d ∷ ds)
behind_definition K d ds x a (inl b) = inl (record { known = b.known; queries = b.queries; accepted = accepts_definition a b.accepted })
behind_definition K d ds x a (inr b) = inr (record { refusal = b.refusal; refused = refuses_behind_definition a b.refused })

-- one that asks something
behind_query : (K : Known) (d : Sexp) (ds : List Sexp) (q : Query) → Asks K d q → AcceptedBehind K ds ⊎ RefusedBehind K ds → AcceptedBehind K (d ∷ ds) ⊎ RefusedBehind K (d ∷ ds)
behind_query K d ds q a (inl b) = inl (record { known = b.known; queries = q ∷ b.queries; accepted = accepts_query a b.accepted })
behind_query K d ds q a (inr b) = inr (record { refusal = b.refusal; refused = refuses_behind_query a b.refused })

-- one that is passed over
behind_passed : (K : Known) (d : Sexp) (ds : List Sexp) → IsPassedOver K d → AcceptedBehind K ds ⊎ RefusedBehind K ds → AcceptedBehind K (d ∷ ds) ⊎ RefusedBehind K (d ∷ ds)
behind_passed K d ds a (inl b) = inl (record { known = b.known; queries = b.queries; accepted = accepts_passed a b.accepted })
behind_passed K d ds a (inr b) = inr (record { refusal = b.refusal; refused = refuses_behind_passed a b.refused })

-- one form, and then the others, whatever is known behind it
by_outcome : (K : Known) (d : Sexp) (ds : List Sexp) → Outcome K d → ((J : Known) → AcceptedBehind J ds ⊎ RefusedBehind J ds) → AcceptedBehind K (d ∷ ds) ⊎ RefusedBehind K (d ∷ ds)
by_outcome K d ds (defined x a) f = behind_definition K d ds x a (f (with_definition K x))
by_outcome K d ds (asked q a) f = behind_query K d ds q a (f K)
by_outcome K d ds (passed a) f = behind_passed K d ds a (f K)
by_outcome K d ds (refused r a) f = inr (record { refusal = r; refused = refuses_here a })

-- what is accepted is a file
is_file : (ds : List Sexp) (J : Known) (qs : List Query) → Accepts (known_before ds) ds J qs → IsFile ds J.program qs
is_file ds J qs a =
    let K : Known = known_before ds in
    subst (λ (I : Known). Accepts K ds I qs)
    (λ i. record {
      scope = accepts-scope K ds J qs a i;
      languages = accepts-languages K ds J qs a i;
      ends = accepts-ends K ds J qs a i;
      forms = accepts-forms K ds J qs a i;
      program = J.program;
    })
    a

-- ---- what becomes of a form and of a file, where each language is free of left recursion or has a first recursive nonterminal

module _ (decided : FreeOrRecursive) where
  -- what a form defines is sound, or the form is refused
  by_soundness : (K : Known) (d : Sexp) (x : Defined) → form_refusal K d ≡ None → form_definition K d ≡ Some x → Outcome K d
  by_soundness K d (language L) p m = by_freedom K d L p m (decided L)
  by_soundness K d (metafunction F) p m = by_late K d (metafunction F) p m tt (late_refusal d) refl
  by_soundness K d (judgement J) p m = by_late K d (judgement J) p m tt (late_refusal d) refl
  by_soundness K d (relation R) p m = by_late K d (relation R) p m tt (late_refusal d) refl

  -- a form that passes its checks
  by_kind : (K : Known) (d : Sexp) (k : FormKind) → form_kind d ≡ k → refusal_by_kind K d k ≡ None → Outcome K d
  by_kind K d (defines k) f e =
      let m = definition-means K d k e in
      by_soundness K d m.value (ap (refusal_by_kind K d) f ∙ e) (ap (definition_by_kind K d) f ∙ m.is)
  by_kind K d (asks k) f e =
      let m = question-means K d k e in
      asked m.value (record { passes = ap (refusal_by_kind K d) f ∙ e; means = ap (query_by_kind K d) f ∙ m.is })
  by_kind K d (passes k) f e = passed (record { passes = ap (refusal_by_kind K d) f ∙ e; means = ap is_passed_kind f })

  -- a form
  by_checks : (K : Known) (d : Sexp) (o : Option Refusal) → form_refusal K d ≡ o → Outcome K d
  by_checks K d None e = by_kind K d (form_kind d) refl e
  by_checks K d (Some r) e = refused r (by_check e)

  -- data are accepted or refused
  behind : (ds : List Sexp) (K : Known) → AcceptedBehind K ds ⊎ RefusedBehind K ds
  behind [] K = inl (record { known = K; queries = []; accepted = accepts_none })
  behind (d ∷ ds) K = by_outcome K d ds (by_checks K d (form_refusal K d) refl) (behind ds)

  -- a file is
  pub accepted_or_refused : (ds : List Sexp) → AreAccepted ds ⊎ AreRefused ds
  accepted_or_refused ds = whole (behind ds (known_before ds))
    where
      whole : AcceptedBehind (known_before ds) ds ⊎ RefusedBehind (known_before ds) ds → AreAccepted ds ⊎ AreRefused ds
      whole (inl a) = inl (record { program = a.known.program; queries = a.queries; accepted = is_file ds a.known a.queries a.accepted })
      whole (inr r) = inr (record { refusal = r.refusal; refused = r.refused })

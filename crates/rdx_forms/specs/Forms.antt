-- When a form is refused and what it means else, given what is known where it stands: by the check with the least number that refuses it, at the
-- first place at which it does.
use Rattle.std.specs.Prelude.{Bool, true, false, Option, Some, None, option_map}
use Rattle.rdx_sexp.specs.Sexp.{Sexp}
use Rattle.rdx_grammar.specs.Forms.{language_form, extension_form}
use Rattle.rdx_patterns.specs.Refusal.{Refusal}
use Rattle.rdx_forms.specs.AlphaForms.{alike_parts, put_parts, alike_refusal, put_refusal, alike_query, put_query}
use Rattle.rdx_forms.specs.BindingParts.{grammar_part, binding_refusal}
use Rattle.rdx_forms.specs.Definitions.{Defined, language, metafunction, judgement, relation}
use Rattle.rdx_forms.specs.DefineForms.{define_refusal, defined_relation}
use Rattle.rdx_forms.specs.FormKinds as kind
use Rattle.rdx_forms.specs.FormKinds.{DefinitionKind, QueryKind, PassedKind, FormKind, defines, asks, passes, form_kind}
use Rattle.rdx_forms.specs.Known.{Known}
use Rattle.rdx_forms.specs.GenerateForms.{generate_parts, check_parts, generate_refusal, check_refusal, generate_query, check_query}
use Rattle.rdx_forms.specs.HoldsForms.{holds_parts, lone_parts, holds_refusal, holds_query, holds_test_query}
use Rattle.rdx_forms.specs.HostForms.{value_refusal, value_query}
use Rattle.rdx_forms.specs.JudgementForms.{define_judgement_refusal, defined_judgement}
use Rattle.rdx_forms.specs.LanguageForms.{plain_refusal, plain_language, extension_refusal, extended_language, language_escape}
use Rattle.rdx_forms.specs.MatchForms.{query_parts, query_refusal, match_query}
use Rattle.rdx_forms.specs.MetafunctionForms.{function_refusal, defined_function}
use Rattle.rdx_forms.specs.PassedForms.{wants_refusal}
use Rattle.rdx_forms.specs.Reported.{earlier}
use Rattle.rdx_answer.specs.Queries.{Query, matches, whether, splits, reducts, tagged, stepper, test_step, test_run, test_match, test_results}
use Rattle.rdx_forms.specs.StepForms.{step_parts, steps_refusal, steps_query}
use Rattle.rdx_forms.specs.TestForms.{equal_parts, leading_parts, equal_refusal, leading_refusal, equal_query, leading_query, results_refusal}

-- ---- definitions: a case for each kind

-- the refusal of a form that defines this, but for left recursion and for what comes behind that; one that defines a language is looked at without its
-- binding forms, and for these
abbrev pub definition_refusal : Known → Sexp → DefinitionKind → Option Refusal
definition_refusal K d kind.language = earlier (plain_refusal K (grammar_part d)) (binding_refusal d)
definition_refusal K d kind.extension = earlier (extension_refusal K (grammar_part d)) (binding_refusal d)
definition_refusal K d kind.metafunction = function_refusal K d
definition_refusal K d kind.judgement = define_judgement_refusal K d
definition_refusal K d kind.relation = define_refusal K d

-- the refusal by what comes behind left recursion
abbrev pub definition_late_refusal : Sexp → DefinitionKind → Option Refusal
definition_late_refusal d kind.language = language_escape (grammar_part d) (language_form (grammar_part d))
definition_late_refusal d kind.extension = language_escape (grammar_part d) (extension_form (grammar_part d))
definition_late_refusal d kind.metafunction = None
definition_late_refusal d kind.judgement = None
definition_late_refusal d kind.relation = None

-- what it defines, if it has the parts
abbrev pub definition_of : Known → Sexp → DefinitionKind → Option Defined
definition_of K d kind.language = option_map language (plain_language (grammar_part d))
definition_of K d kind.extension = option_map language (extended_language K (grammar_part d))
definition_of K d kind.metafunction = option_map metafunction (defined_function K d)
definition_of K d kind.judgement = option_map judgement (defined_judgement K d)
definition_of K d kind.relation = option_map relation (defined_relation K d)

-- ---- questions: a case for each kind

-- the refusal of a form that asks this
abbrev pub question_refusal : Known → Sexp → QueryKind → Option Refusal
question_refusal K d kind.matches = query_refusal K d (query_parts d)
question_refusal K d kind.whether = query_refusal K d (query_parts d)
question_refusal K d kind.splits = query_refusal K d (query_parts d)
question_refusal K d kind.value = value_refusal K d
question_refusal K d kind.holds = holds_refusal K d (holds_parts d)
question_refusal K d kind.reducts = steps_refusal K d (step_parts d)
question_refusal K d kind.tagged = steps_refusal K d (step_parts d)
question_refusal K d kind.stepper = steps_refusal K d (step_parts d)
question_refusal K d kind.generate = generate_refusal K d (generate_parts d)
question_refusal K d kind.check = check_refusal K d (check_parts d)
question_refusal K d kind.alike = alike_refusal K d (alike_parts d)
question_refusal K d kind.put = put_refusal K d (put_parts d)
question_refusal K d kind.test_equal = equal_refusal K d (equal_parts d)
question_refusal K d kind.test_step = leading_refusal K d (leading_parts d)
question_refusal K d kind.test_run = leading_refusal K d (leading_parts d)
question_refusal K d kind.test_match = query_refusal K d (query_parts d)
question_refusal K d kind.test_no_match = query_refusal K d (query_parts d)
question_refusal K d kind.test_holds = holds_refusal K d (lone_parts d)
question_refusal K d kind.test_results = results_refusal d

-- the query that it asks, if it has the parts
abbrev pub asked_query : Known → Sexp → QueryKind → Option Query
asked_query K d kind.matches = match_query K matches d
asked_query K d kind.whether = match_query K whether d
asked_query K d kind.splits = match_query K splits d
asked_query K d kind.value = Some (value_query K d)
asked_query K d kind.holds = holds_query K d
asked_query K d kind.reducts = steps_query K reducts d
asked_query K d kind.tagged = steps_query K tagged d
asked_query K d kind.stepper = steps_query K stepper d
asked_query K d kind.generate = generate_query K d
asked_query K d kind.check = check_query K d
asked_query K d kind.alike = alike_query K d
asked_query K d kind.put = put_query K d
asked_query K d kind.test_equal = equal_query K d
asked_query K d kind.test_step = leading_query K test_step d
asked_query K d kind.test_run = leading_query K test_run d
asked_query K d kind.test_match = match_query K (λ name p h. test_match name p h true) d
asked_query K d kind.test_no_match = match_query K (λ name p h. test_match name p h false) d
asked_query K d kind.test_holds = holds_test_query K d
asked_query K d kind.test_results = Some test_results

-- ---- forms that are passed over

-- the refusal of such a form
abbrev pub passed_refusal : Sexp → PassedKind → Option Refusal
passed_refusal d kind.wants = wants_refusal d
passed_refusal d kind.offers = None

-- ---- forms

-- the refusal of a form that does this
abbrev pub refusal_by_kind : Known → Sexp → FormKind → Option Refusal
refusal_by_kind K d (defines k) = definition_refusal K d k
refusal_by_kind K d (asks k) = question_refusal K d k
refusal_by_kind K d (passes k) = passed_refusal d k

-- its refusal by what comes behind left recursion
abbrev pub late_refusal_by_kind : Sexp → FormKind → Option Refusal
late_refusal_by_kind d (defines k) = definition_late_refusal d k
late_refusal_by_kind d (asks k) = None
late_refusal_by_kind d (passes k) = None

-- what it defines, if anything
abbrev pub definition_by_kind : Known → Sexp → FormKind → Option Defined
definition_by_kind K d (defines k) = definition_of K d k
definition_by_kind K d (asks k) = None
definition_by_kind K d (passes k) = None

-- the query that it asks, if any
abbrev pub query_by_kind : Known → Sexp → FormKind → Option Query
query_by_kind K d (defines k) = None
query_by_kind K d (asks k) = asked_query K d k
query_by_kind K d (passes k) = None

-- it is passed over
abbrev pub is_passed_kind : FormKind → Bool
is_passed_kind (defines k) = false
is_passed_kind (asks k) = false
is_passed_kind (passes k) = true

-- the refusal of a form, but for left recursion and for what comes behind that
abbrev pub form_refusal : Known → Sexp → Option Refusal
form_refusal K d = refusal_by_kind K d (form_kind d)

-- its refusal by what comes behind left recursion
abbrev pub late_refusal : Sexp → Option Refusal
late_refusal d = late_refusal_by_kind d (form_kind d)

-- what a form defines
abbrev pub form_definition : Known → Sexp → Option Defined
form_definition K d = definition_by_kind K d (form_kind d)

-- the query that a form asks
abbrev pub form_query : Known → Sexp → Option Query
form_query K d = query_by_kind K d (form_kind d)

-- a form is passed over
abbrev pub is_passed : Sexp → Bool
is_passed d = is_passed_kind (form_kind d)

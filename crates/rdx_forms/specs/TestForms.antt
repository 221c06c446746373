-- Forms of tests over host expressions, `(test-equal h h)`, `(test--> R h h ...)` and `(test-->> R h h ...)`, and the form that counts tests,
-- `(test-results)`: when they are refused, and what they ask else.
use Rattle.std.specs.Prelude.{ℕ, List, [], ◌∷◌, Option, Some, None, map, option_map, if◌then◌else◌}
use Rattle.rdx_sexp.specs.Sexp.{Sexp}
use Rattle.rdx_lang.specs.Programs.{relation_named}
use Rattle.rdx_lang.specs.Templates.{Host}
use Rattle.rdx_patterns.specs.Parts.{parts, is_symbol, text_of}
use Rattle.rdx_patterns.specs.Refusal.{Refusal, unnamed, first_refusal}
use Rattle.rdx_patterns.specs.declared.shape.fault.DefKind.TheVariants.{Shape}
use Rattle.rdx_forms.specs.HostForms.{parts_of_host, host_of_datum, host_shape_at, bad_host_at, undriven_host_at, host_escape_at}
use Rattle.rdx_forms.specs.Known.{Known}
use Rattle.rdx_answer.specs.Queries.{Query, test_equal}
use Rattle.rdx_forms.specs.StepForms.{unknown_relation_by}

-- ---- the parts

-- the host expressions that have to make the same
pub record EqualParts : Type 0 where
  pub found : Sexp
  pub wanted : Sexp

-- the parts of a list `(head h h)`
abbrev pub equal_among : Option (List Sexp) → Option EqualParts
equal_among (Some (h ∷ t ∷ u ∷ [])) = Some (record { found = t; wanted = u })
equal_among o = None

abbrev pub equal_parts : Sexp → Option EqualParts
equal_parts d = equal_among (parts d)

-- the name of a relation, the host expression from whose term it is to lead, and those to whose terms
pub record LeadingParts : Type 0 where
  pub relation : Sexp
  pub from : Sexp
  pub wanted : List Sexp

-- the parts of a list `(head R h h ...)`
abbrev pub leading_among : Option (List Sexp) → Option LeadingParts
leading_among (Some (h ∷ r ∷ t ∷ us)) = if is_symbol r then Some (record { relation = r; from = t; wanted = us }) else None
leading_among o = None

abbrev pub leading_parts : Sexp → Option LeadingParts
leading_parts d = leading_among (parts d)

-- ---- check by check, over host expressions in their order

-- S1: the first in which something has not its shape
abbrev pub hosts_shape_at : List Sexp → Option Refusal
hosts_shape_at hs = first_refusal (map host_shape_at hs)

-- S5: the first in which a template means nothing
abbrev pub bad_hosts_at : Known → List Sexp → Option Refusal
bad_hosts_at K hs = first_refusal (map (λ h. bad_host_at (parts_of_host K h)) hs)

-- S9: the first with an ellipsis that drives no name
abbrev pub undriven_hosts_at : Known → List Sexp → Option Refusal
undriven_hosts_at K hs = first_refusal (map (λ h. undriven_host_at K (parts_of_host K h)) hs)

-- S10: the first that would ask Racket
abbrev pub hosts_escape_at : Known → List Sexp → Option Refusal
hosts_escape_at K hs = first_refusal (map (λ h. host_escape_at (parts_of_host K h)) hs)

-- ---- the name of a relation

-- S8: it is that of no relation
abbrev pub unknown_tested_at : Known → Option Sexp → Option Refusal
unknown_tested_at K None = None
unknown_tested_at K (Some r) = unknown_relation_by (relation_named K.program (text_of r)) r

-- ---- all checks

-- the refusal of the form d over such a name and these host expressions
abbrev pub test_refusal_over : Known → Sexp → Option Sexp → List Sexp → Option Refusal
test_refusal_over K d r hs =
    first_refusal
    (hosts_shape_at hs  -- S1
    ∷ bad_hosts_at K hs  -- S5
    ∷ unknown_tested_at K r  -- S8
    ∷ undriven_hosts_at K hs  -- S9
    ∷ hosts_escape_at K hs  -- S10
    ∷ [])

-- the refusal of a form with these parts, S1 where it has them not
abbrev pub equal_refusal : Known → Sexp → Option EqualParts → Option Refusal
equal_refusal K d None = Some (unnamed Shape d)
equal_refusal K d (Some q) = test_refusal_over K d None (q.found ∷ q.wanted ∷ [])

abbrev pub leading_refusal : Known → Sexp → Option LeadingParts → Option Refusal
leading_refusal K d None = Some (unnamed Shape d)
leading_refusal K d (Some q) = test_refusal_over K d (Some q.relation) (q.from ∷ q.wanted)

-- S1: a form that counts tests has more than its head
abbrev pub counting_among : Sexp → Option (List Sexp) → Option Refusal
counting_among d (Some (h ∷ [])) = None
counting_among d o = Some (unnamed Shape d)

-- the refusal of a form that counts tests
abbrev pub results_refusal : Sexp → Option Refusal
results_refusal d = counting_among d (parts d)

-- ---- what is asked

-- the test of two host expressions that the form d is, if it has the parts
abbrev pub equal_query : Known → Sexp → Option Query
equal_query K d = option_map (λ q. test_equal (host_of_datum K q.found) (host_of_datum K q.wanted)) (equal_parts d)

-- the test of a relation, of such a kind, that it is
abbrev pub leading_query : Known → (List ℕ → Host → List Host → Query) → Sexp → Option Query
leading_query K kind d =
    option_map (λ q. kind (text_of q.relation) (host_of_datum K q.from) (map (host_of_datum K) q.wanted)) (leading_parts d)

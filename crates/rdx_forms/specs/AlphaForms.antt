-- Forms that ask under the binding forms of a language: `(alpha-equivalent? L h h)` and `(substitute L h h h)`, when they are refused, and what they
-- ask else.
use Rattle.std.specs.Prelude.{List, [], ◌∷◌, Option, Some, None, option_map, if◌then◌else◌}
use Rattle.rdx_sexp.specs.Sexp.{Sexp}
use Rattle.rdx_patterns.specs.Parts.{parts, is_symbol, text_of}
use Rattle.rdx_patterns.specs.Refusal.{Refusal, unnamed, first_refusal}
use Rattle.rdx_patterns.specs.declared.shape.fault.DefKind.TheVariants.{Shape}
use Rattle.rdx_forms.specs.HostForms.{host_of_datum}
use Rattle.rdx_forms.specs.Known.{Known}
use Rattle.rdx_forms.specs.LanguageForms.{unknown_at}
use Rattle.rdx_forms.specs.TestForms.{hosts_shape_at, bad_hosts_at, undriven_hosts_at, hosts_escape_at}
use Rattle.rdx_answer.specs.Bound.{forms_named}
use Rattle.rdx_answer.specs.Queries.{Query, alike, substituted}

-- ---- the parts

-- the name of a language, and the host expressions that are to make alpha equivalent terms
pub record AlikeParts : Type 0 where
  pub language : Sexp
  pub one : Sexp
  pub other : Sexp

-- the parts of a list `(head L h h)`, where L is a symbol
abbrev pub alike_among : Option (List Sexp) → Option AlikeParts
alike_among (Some (h ∷ l ∷ t ∷ u ∷ [])) = if is_symbol l then Some (record { language = l; one = t; other = u }) else None
alike_among o = None

abbrev pub alike_parts : Sexp → Option AlikeParts
alike_parts d = alike_among (parts d)

-- the name of a language, and the host expressions that make a term, the symbol for which something is put in it, and what is put
pub record PutParts : Type 0 where
  pub language : Sexp
  pub whole : Sexp
  pub symbol : Sexp
  pub value : Sexp

-- the parts of a list `(head L h h h)`, where L is a symbol
abbrev pub put_among : Option (List Sexp) → Option PutParts
put_among (Some (h ∷ l ∷ t ∷ x ∷ v ∷ [])) = if is_symbol l then Some (record { language = l; whole = t; symbol = x; value = v }) else None
put_among o = None

abbrev pub put_parts : Sexp → Option PutParts
put_parts d = put_among (parts d)

-- ---- all checks

-- the refusal of the form d over the name of a language and these host expressions
abbrev pub bound_refusal_over : Known → Sexp → Sexp → List Sexp → Option Refusal
bound_refusal_over K d l hs =
    first_refusal
    (hosts_shape_at hs  -- S1
    ∷ unknown_at K (Some l)  -- S2
    ∷ bad_hosts_at K hs  -- S5
    ∷ undriven_hosts_at K hs  -- S9
    ∷ hosts_escape_at K hs  -- S10
    ∷ [])

-- the refusal of a form with these parts; S1 of one without
abbrev pub alike_refusal : Known → Sexp → Option AlikeParts → Option Refusal
alike_refusal K d None = Some (unnamed Shape d)
alike_refusal K d (Some q) = bound_refusal_over K d q.language (q.one ∷ q.other ∷ [])

abbrev pub put_refusal : Known → Sexp → Option PutParts → Option Refusal
put_refusal K d None = Some (unnamed Shape d)
put_refusal K d (Some q) = bound_refusal_over K d q.language (q.whole ∷ q.symbol ∷ q.value ∷ [])

-- ---- what is asked

-- the query that the form d asks, if it has the parts
abbrev pub alike_query : Known → Sexp → Option Query
alike_query K d =
    option_map (λ q. alike (forms_named K.forms (text_of q.language)) (host_of_datum K q.one) (host_of_datum K q.other)) (alike_parts d)

abbrev pub put_query : Known → Sexp → Option Query
put_query K d =
    option_map (λ q. substituted (forms_named K.forms (text_of q.language)) (host_of_datum K q.whole) (host_of_datum K q.symbol) (host_of_datum K q.value))
    (put_parts d)

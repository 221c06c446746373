-- Forms that match a pattern against a term or split the term by it, `(head L p h)`: when they are refused, and what they ask else.
use Rattle.std.specs.Prelude.{ℕ, List, [], ◌∷◌, Option, Some, None, option_map, if◌then◌else◌}
use Rattle.rdx_sexp.specs.Sexp.{Sexp}
use Rattle.rdx_lang.specs.Patterns.{Pattern}
use Rattle.rdx_lang.specs.Templates.{Host}
use Rattle.rdx_patterns.specs.Nonterminals.{names_of}
use Rattle.rdx_patterns.specs.Parts.{parts, is_symbol, text_of}
use Rattle.rdx_patterns.specs.PatternRefusal.{keyword_at, bad_binder_at, bad_occurrence_at, depth_clash_at, escape_at}
use Rattle.rdx_patterns.specs.Reading.{reading}
use Rattle.rdx_patterns.specs.Refusal.{Refusal, unnamed, or_else, first_refusal}
use Rattle.rdx_patterns.specs.Occurrences.{Occurrence, occurrences}
use Rattle.rdx_patterns.specs.declared.shape.fault.DefKind.TheVariants.{Shape}
use Rattle.rdx_patterns.specs.declared.patterns.position.Position.TheVariants as position
use Rattle.rdx_templates.specs.TemplateOccurrences.{TemplatePart}
use Rattle.rdx_forms.specs.HostForms.{parts_of_host, host_of_datum, host_shape_at, bad_host_at, undriven_host_at, host_escape_at}
use Rattle.rdx_forms.specs.Known.{Known}
use Rattle.rdx_forms.specs.LanguageForms.{named_base, unknown_at}
use Rattle.rdx_answer.specs.Queries.{Query}

-- ---- the parts

-- the name of a language, a pattern, and the host expression that gives the term
pub record QueryParts : Type 0 where
  pub language : Sexp
  pub pattern : Sexp
  pub host : Sexp

-- the parts of a list `(head L p h)`
abbrev pub query_among : Option (List Sexp) → Option QueryParts
query_among (Some (h ∷ l ∷ p ∷ t ∷ [])) = Some (record { language = l; pattern = p; host = t })
query_among o = None

-- the parts of a query, where it has four items
abbrev pub query_parts : Sexp → Option QueryParts
query_parts d = query_among (parts d)

-- ---- check by check

-- the parts of a query whose language is a symbol
abbrev pub checked_parts : Option QueryParts → Option QueryParts
checked_parts None = None
checked_parts (Some q) = if is_symbol q.language then Some q else None

-- S1: the query has not its parts, or a keyword stands in its pattern, or something in its host expression has not its shape
abbrev pub query_shape_at : Sexp → Option QueryParts → Option Refusal
query_shape_at d None = Some (unnamed Shape d)
query_shape_at d (Some q) = or_else (keyword_at (occurrences 0 q.pattern)) (host_shape_at q.host)

-- the name of its language
abbrev pub query_language : Option QueryParts → Option Sexp
query_language None = None
query_language (Some q) = Some q.language

-- what stands in its pattern
abbrev pub pattern_occurrences : Option QueryParts → List Occurrence
pattern_occurrences None = []
pattern_occurrences (Some q) = occurrences 0 q.pattern

-- and in its host expression
abbrev pub query_host : Known → Option QueryParts → List TemplatePart
query_host K None = []
query_host K (Some q) = parts_of_host K q.host

-- S5: its pattern means nothing, over these nonterminals, or a template does
abbrev pub bad_query_at : List (List ℕ) → List Occurrence → List TemplatePart → Option Refusal
bad_query_at ns os ps = or_else (bad_occurrence_at ns os) (bad_host_at ps)

-- S10: its pattern would ask Racket, or its host expression
abbrev pub query_escape_at : List Occurrence → List TemplatePart → Option Refusal
query_escape_at os ps = or_else (escape_at os) (host_escape_at ps)

-- ---- all checks

-- the refusal of a query with these parts
abbrev pub query_refusal : Known → Sexp → Option QueryParts → Option Refusal
query_refusal K d q =
    first_refusal
    (query_shape_at d (checked_parts q)  -- S1
    ∷ unknown_at K (query_language q)  -- S2
    ∷ bad_binder_at (pattern_occurrences q)  -- S4
    ∷ bad_query_at (names_of (named_base K (query_language q))) (pattern_occurrences q) (query_host K q)  -- S5
    ∷ depth_clash_at (names_of (named_base K (query_language q))) (pattern_occurrences q)  -- S6
    ∷ undriven_host_at K (query_host K q)  -- S9
    ∷ query_escape_at (pattern_occurrences q) (query_host K q)  -- S10
    ∷ [])

-- ---- what is asked

-- a query of such a kind with these parts; its pattern is read over the nonterminals of its language
abbrev pub query_over : Known → (List ℕ → Pattern → Host → Query) → QueryParts → Query
query_over K kind q =
    kind (text_of q.language) (reading (names_of (named_base K (Some q.language))) position.Query q.pattern) (host_of_datum K q.host)

-- the query that the form d asks, if it has the parts
abbrev pub match_query : Known → (List ℕ → Pattern → Host → Query) → Sexp → Option Query
match_query K kind d = option_map (query_over K kind) (query_parts d)

-- Forms that generate a term of a pattern, `(generate-term L p n option ...)`, and forms that look among such terms for one by which a host expression
-- makes #f, `(redex-check L p h option ...)`: when they are refused, and what they ask else. The names of the pattern are bound in the host expression.
use Rattle.std.specs.Prelude.{ℕ, Bool, true, false, not, ◌&&◌, List, [], ◌∷◌, ◌++◌, Option, Some, None, option_map, if◌then◌else◌}
use Rattle.rdx_sexp.specs.Sexp.{integer, Sexp, leaf}
use Rattle.rdx_patterns.specs.Nonterminals.{names_of}
use Rattle.rdx_patterns.specs.Occurrences.{Occurrence, occurrences}
use Rattle.rdx_patterns.specs.Parts.{parts, is_symbol, text_of}
use Rattle.rdx_patterns.specs.PatternChecks.{when}
use Rattle.rdx_patterns.specs.PatternRefusal.{keyword_at, bad_binder_at, bad_occurrence_at, depth_clash_at, escape_at}
use Rattle.rdx_patterns.specs.Reading.{reading}
use Rattle.rdx_patterns.specs.Refusal.{Refusal, unnamed, named, or_else, first_refusal}
use Rattle.rdx_patterns.specs.declared.shape.fault.DefKind.TheVariants.{Shape, EllipsisDepth, EllipsisVariable}
use Rattle.rdx_patterns.specs.declared.patterns.position.Position.TheVariants as position
use Rattle.rdx_templates.specs.Bound.{Bound}
use Rattle.rdx_templates.specs.Earliest.{start, earliest}
use Rattle.rdx_templates.specs.TemplateChecks.{shallow_parts, undriven_parts}
use Rattle.rdx_templates.specs.TemplateOccurrences.{TemplatePart, host_parts}
use Rattle.rdx_templates.specs.TemplateReading.{host_reading}
use Rattle.rdx_parts.specs.Stands.{bound_in, names_bound}
use Rattle.rdx_forms.specs.HostForms.{host_shape_at, bad_host_at, host_escape_at}
use Rattle.rdx_forms.specs.Known.{Known}
use Rattle.rdx_forms.specs.LanguageForms.{named_base, unknown_at}
use Rattle.rdx_forms.specs.Options.{OptionKind, seed_option, attempts_option, are_pairs, is_within, number, number_or, option_faults, option_number}
use Rattle.rdx_answer.specs.Queries.{Query, generate, check}

-- ---- the parts

-- the name of a language, a pattern, a size or a host expression, and the options
pub record GenerateParts : Type 0 where
  pub language : Sexp
  pub pattern : Sexp
  pub third : Sexp
  pub options : List Sexp

-- the parts of a list `(head L p d option ...)`
abbrev pub generate_among : Option (List Sexp) → Option GenerateParts
generate_among (Some (h ∷ l ∷ p ∷ d ∷ os)) = Some (record { language = l; pattern = p; third = d; options = os })
generate_among o = None

-- the datum is an integer
abbrev pub is_integer : Sexp → Bool
is_integer (leaf (integer n) s) = true
is_integer d = false

-- the parts of such a form whose language is a symbol, with options in pairs
abbrev pub in_pairs : Option GenerateParts → Option GenerateParts
in_pairs None = None
in_pairs (Some q) = if is_symbol q.language && are_pairs q.options then Some q else None

-- those of a form that checks a property
abbrev pub check_parts : Sexp → Option GenerateParts
check_parts d = in_pairs (generate_among (parts d))

-- whose third is a size
abbrev pub with_size : Option GenerateParts → Option GenerateParts
with_size None = None
with_size (Some q) = if is_integer q.third then Some q else None

-- those of a form that generates a term
abbrev pub generate_parts : Sexp → Option GenerateParts
generate_parts d = with_size (in_pairs (generate_among (parts d)))

-- ---- over what a form has

-- the name of its language
abbrev pub language_in : Option GenerateParts → Option Sexp
language_in None = None
language_in (Some q) = Some q.language

-- the nonterminals over which its pattern is read
abbrev pub names_over : Known → Option GenerateParts → List (List ℕ)
names_over K q = names_of (named_base K (language_in q))

-- what stands in its pattern
abbrev pub pattern_stands : Option GenerateParts → List Occurrence
pattern_stands None = []
pattern_stands (Some q) = occurrences 0 q.pattern

-- the names that its pattern binds
abbrev pub bound_over : Known → Option GenerateParts → Bound
bound_over K None = []
bound_over K (Some q) = names_bound (bound_in (names_over K (Some q)) q.pattern)

-- what stands in its host expression
abbrev pub host_stands : Known → Option GenerateParts → List TemplatePart
host_stands K None = []
host_stands K (Some q) = host_parts K.scope (bound_over K (Some q)) 0 q.third

-- ---- numbers

-- the size, where it is less than 0 or greater than 30
abbrev pub size_faults : Sexp → List Sexp
size_faults (leaf (integer n) s) = when (not (is_within (record { name = []; least = 0; most = 30 }) n)) (leaf (integer n) s)
size_faults d = d ∷ []

-- S1: a number or an option is not in order
abbrev pub numbers_at : List Sexp → Option Refusal
numbers_at ds = option_map (unnamed Shape) (earliest start ds)

-- the options of either
abbrev pub generate_options : List OptionKind
generate_options = seed_option ∷ []

abbrev pub check_options : List OptionKind
check_options = attempts_option ∷ seed_option ∷ []

-- ---- check by check

-- S1 of a form that generates a term: it has not its parts, a keyword stands in its pattern, or a number or an option is not in order
abbrev pub generate_shape_at : Sexp → Option GenerateParts → Option Refusal
generate_shape_at d None = Some (unnamed Shape d)
generate_shape_at d (Some q) = or_else (keyword_at (occurrences 0 q.pattern)) (numbers_at (size_faults q.third ++ option_faults generate_options q.options))

-- S1 of one that checks a property: likewise, or something in its host expression has not its shape
abbrev pub check_shape_at : Sexp → Option GenerateParts → Option Refusal
check_shape_at d None = Some (unnamed Shape d)
check_shape_at d (Some q) =
    or_else (or_else (keyword_at (occurrences 0 q.pattern)) (host_shape_at q.third)) (numbers_at (option_faults check_options q.options))

-- S6: a name has two depths in the pattern, or it stands in the host expression under fewer ellipses than its depth
abbrev pub check_depth_at : List (List ℕ) → Bound → List Occurrence → List TemplatePart → Option Refusal
check_depth_at ns bs os ps = or_else (depth_clash_at ns os) (option_map (named EllipsisDepth) (earliest start (shallow_parts bs ps)))

-- S9: an ellipsis of a template drives no name
abbrev pub check_undriven_at : Known → Bound → List TemplatePart → Option Refusal
check_undriven_at K bs ps = option_map (unnamed EllipsisVariable) (earliest start (undriven_parts K.scope bs ps))

-- ---- all checks

-- the refusal of a form that generates a term, with these parts
abbrev pub generate_refusal : Known → Sexp → Option GenerateParts → Option Refusal
generate_refusal K d q =
    first_refusal
    (generate_shape_at d q  -- S1
    ∷ unknown_at K (language_in q)  -- S2
    ∷ bad_binder_at (pattern_stands q)  -- S4
    ∷ bad_occurrence_at (names_over K q) (pattern_stands q)  -- S5
    ∷ depth_clash_at (names_over K q) (pattern_stands q)  -- S6
    ∷ escape_at (pattern_stands q)  -- S10
    ∷ [])

-- of one that checks a property
abbrev pub check_refusal : Known → Sexp → Option GenerateParts → Option Refusal
check_refusal K d q =
    first_refusal
    (check_shape_at d q  -- S1
    ∷ unknown_at K (language_in q)  -- S2
    ∷ bad_binder_at (pattern_stands q)  -- S4
    ∷ or_else (bad_occurrence_at (names_over K q) (pattern_stands q)) (bad_host_at (host_stands K q))  -- S5
    ∷ check_depth_at (names_over K q) (bound_over K q) (pattern_stands q) (host_stands K q)  -- S6
    ∷ check_undriven_at K (bound_over K q) (host_stands K q)  -- S9
    ∷ or_else (escape_at (pattern_stands q)) (host_escape_at (host_stands K q))  -- S10
    ∷ [])

-- ---- what is asked

-- the seed, and how many attempts are made, where they are not given
abbrev pub usual_seed : ℕ
usual_seed = 42

abbrev pub usual_attempts : ℕ
usual_attempts = 1000

-- the query of a form that generates a term, with these parts; its pattern is read over the nonterminals of its language
abbrev pub generate_over : Known → GenerateParts → Query
generate_over K q =
    generate (text_of q.language) (reading (names_over K (Some q)) position.Query q.pattern) (number_or 0 (number q.third)) (number_or usual_seed (option_number seed_option q.options))

-- of one that checks a property
abbrev pub check_over : Known → GenerateParts → Query
check_over K q =
    check
    (text_of q.language)
    (reading (names_over K (Some q)) position.Query q.pattern)
    (host_reading K.scope (bound_over K (Some q)) q.third)
    (number_or usual_attempts (option_number attempts_option q.options))
    (number_or usual_seed (option_number seed_option q.options))

-- the query that the form d asks, if it has the parts
abbrev pub generate_query : Known → Sexp → Option Query
generate_query K d = option_map (generate_over K) (generate_parts d)

abbrev pub check_query : Known → Sexp → Option Query
check_query K d = option_map (check_over K) (check_parts d)

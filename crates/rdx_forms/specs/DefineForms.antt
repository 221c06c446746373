-- Forms that define a relation: when they are refused, and what they define else. A `define` of anything else is Racket that means nothing here.
use Rattle.std.specs.Prelude.{Option, Some, None}
use Rattle.rdx_sexp.specs.Sexp.{Sexp}
use Rattle.rdx_lang.specs.Programs.{Relation}
use Rattle.rdx_patterns.specs.Refusal.{Refusal, unnamed}
use Rattle.rdx_patterns.specs.declared.shape.fault.DefKind.TheVariants.{RacketEscape}
use Rattle.rdx_forms.specs.ClosureForms.{context_refusal, context_relation, compatible_refusal, compatible_relation}
use Rattle.rdx_forms.specs.DefineParts.{DefineKind, by_cases, by_contexts, by_crosses, DefineParts, define_parts}
use Rattle.rdx_forms.specs.Known.{Known}
use Rattle.rdx_forms.specs.RelationForms.{cases_refusal, cases_relation}

-- the refusal of the form d with these parts, by what its list says
abbrev pub kind_refusal : Known → Sexp → DefineParts → DefineKind → Option Refusal
kind_refusal K d q by_cases = cases_refusal K d q
kind_refusal K d q by_contexts = context_refusal K d q
kind_refusal K d q by_crosses = compatible_refusal K d q

-- by its parts, where it has them
abbrev pub define_refusal_by : Known → Sexp → Option DefineParts → Option Refusal
define_refusal_by K d None = Some (unnamed RacketEscape d)  -- S10
define_refusal_by K d (Some q) = kind_refusal K d q q.kind

-- the refusal of `(define ...)`
abbrev pub define_refusal : Known → Sexp → Option Refusal
define_refusal K d = define_refusal_by K d (define_parts d)

-- the relation that a form with these parts defines, by what its list says
abbrev pub kind_relation : Known → DefineParts → DefineKind → Option Relation
kind_relation K q by_cases = cases_relation K q
kind_relation K q by_contexts = context_relation K q
kind_relation K q by_crosses = compatible_relation K q

-- by its parts, where it has them
abbrev pub relation_by : Known → Option DefineParts → Option Relation
relation_by K None = None
relation_by K (Some q) = kind_relation K q q.kind

-- the relation that the form defines, if it has the parts
abbrev pub defined_relation : Known → Sexp → Option Relation
defined_relation K d = relation_by K (define_parts d)

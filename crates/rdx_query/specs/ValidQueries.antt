-- When queries are valid: what they name is there, patterns are well formed in the language of their name, premises are valid in the language of their
-- judgement, host expressions fit where no name is bound, and templates behind a premise where its names are.
use Rattle.std.specs.Prelude.{ℕ, nat_lt, Bool, true, false, ◌&&◌, List, [], Option, Some, None, is_some}
use Rattle.std.specs.List.{list_all}
use Rattle.rdx_lang.specs.Depths.{uses}
use Rattle.rdx_lang.specs.Fitting.{fits, fits_in}
use Rattle.rdx_lang.specs.Modes.{Callable}
use Rattle.rdx_lang.specs.Patterns.{Pattern, Language}
use Rattle.rdx_lang.specs.Programs.{Judgement, Premise, Program, holds as asks, language_named, judgement_named, relation_named}
use Rattle.rdx_lang.specs.Scopes.{bound_by}
use Rattle.rdx_lang.specs.Templates.{Host, Template}
use Rattle.rdx_lang.specs.Valid.{is_valid_extra, callable_in}
use Rattle.rdx_lang.specs.WellFormed.{is_well_formed_in}
use Rattle.rdx_answer.specs.Queries.{Query, matches, whether, splits, value, holds, reducts, tagged, stepper, generate, check, alike, substituted, test_equal, test_step, test_run, test_match, test_holds, test_results}

-- what may be asked: what may be called, the language of each name, that of the judgement of each name, and which names are those of relations
pub record Askable : Type 0 where
  pub callable : Callable
  pub languages : List ℕ → Option Language
  pub judged : List ℕ → Option Language
  pub relations : List ℕ → Bool

-- the host expression fits where no name is bound
abbrev pub is_valid_host : Callable → Host → Bool
is_valid_host C h = fits_in C.functions (bound_by []) 0 h

-- the pattern is well formed in the language, if there is one
abbrev pub is_valid_pattern : Option Language → Pattern → Bool
is_valid_pattern None p = false
is_valid_pattern (Some L) p = is_well_formed_in L p

-- the premise, before which no name is bound, is valid in the language, if there is one
abbrev pub is_valid_premise : Callable → Option Language → Premise → Bool
is_valid_premise C None q = false
is_valid_premise C (Some L) q = is_valid_extra C L [] (asks q)

-- the template behind the premise fits the names that this binds, where there is one
abbrev pub fits_behind : Callable → Premise → Option Template → Bool
fits_behind C q None = true
fits_behind C q (Some t) = fits C.functions (bound_by (uses 0 q.outputs)) 0 t

-- the host expression fits where the names of the pattern are bound
abbrev pub fits_where : Callable → Pattern → Host → Bool
fits_where C p h = fits_in C.functions (bound_by (uses 0 p)) 0 h

-- the query is valid, where these may be asked
abbrev pub is_valid_query : Askable → Query → Bool
is_valid_query A (matches x p h) = is_valid_pattern (A.languages x) p && is_valid_host A.callable h
is_valid_query A (whether x p h) = is_valid_pattern (A.languages x) p && is_valid_host A.callable h
is_valid_query A (splits x p h) = is_valid_pattern (A.languages x) p && is_valid_host A.callable h
is_valid_query A (value h) = is_valid_host A.callable h
is_valid_query A (holds q t) = is_valid_premise A.callable (A.judged q.judgement) q && fits_behind A.callable q t
is_valid_query A (reducts x h) = A.relations x && is_valid_host A.callable h
is_valid_query A (tagged x h) = A.relations x && is_valid_host A.callable h
is_valid_query A (stepper x h) = A.relations x && is_valid_host A.callable h
is_valid_query A (generate x p size seed) = is_valid_pattern (A.languages x) p && (nat_lt size 31 && nat_lt seed 18_446_744_073_709_551_616)
is_valid_query A (check x p h attempts seed) =
    is_valid_pattern (A.languages x) p && (fits_where A.callable p h && (nat_lt 0 attempts && (nat_lt attempts 100_001 && nat_lt seed 18_446_744_073_709_551_616)))
is_valid_query A (alike fs h k) = is_valid_host A.callable h && is_valid_host A.callable k
is_valid_query A (substituted fs h k l) = is_valid_host A.callable h && (is_valid_host A.callable k && is_valid_host A.callable l)
is_valid_query A (test_equal h k) = is_valid_host A.callable h && is_valid_host A.callable k
is_valid_query A (test_step x h ks) = A.relations x && (is_valid_host A.callable h && list_all (is_valid_host A.callable) ks)
is_valid_query A (test_run x h ks) = A.relations x && (is_valid_host A.callable h && list_all (is_valid_host A.callable) ks)
is_valid_query A (test_match x p h wanted) = is_valid_pattern (A.languages x) p && is_valid_host A.callable h
is_valid_query A (test_holds q) = is_valid_premise A.callable (A.judged q.judgement) q
is_valid_query A test_results = true

-- the language of a judgement, where there is one
abbrev pub judged_language : Program → Option Judgement → Option Language
judged_language P None = None
judged_language P (Some J) = language_named P J.language

-- what may be asked of a program
abbrev pub askable_in : Program → Askable
askable_in P = record {
  callable = callable_in P;
  languages = language_named P;
  judged = λ x. judged_language P (judgement_named P x);
  relations = λ x. is_some (relation_named P x);
}

-- each of these queries is valid beside the program
abbrev pub are_valid_queries : Program → List Query → Bool
are_valid_queries P qs = list_all (is_valid_query (askable_in P)) qs

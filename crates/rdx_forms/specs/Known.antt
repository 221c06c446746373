-- What is known where a form stands: what the whole file defines, and what the forms before it define.
use Rattle.std.specs.Prelude.{ℕ, Bool, ◌||◌, List, [], ◌∷◌, ◌++◌, Option, Some, None, is_some, bytes_eq, if◌then◌else◌}
use Rattle.rdx_lang.specs.Patterns.{Language}
use Rattle.rdx_lang.specs.Programs.{Program, language_named, metafunction_named, judgement_named, relation_named}
use Rattle.rdx_patterns.specs.Ends.{crossed_for}
use Rattle.rdx_grammar.specs.Languages.{empty_language}
use Rattle.rdx_templates.specs.Scope.{Scope}
use Rattle.rdx_answer.specs.Bound.{Bound}
use Rattle.rdx_forms.specs.Definitions.{Defined, language, metafunction, judgement, relation}

-- the scope of the file, the names of its judgements with those of their languages, the nonterminals to which it asks for cross nonterminals,
-- the program of the forms before, and the binding forms of the languages of the whole file
pub record Known : Type 0 where
  pub scope : Scope
  pub languages : List (List ℕ × List ℕ)
  pub ends : List (List ℕ)
  pub program : Program
  pub forms : List Bound

-- what defines nothing
abbrev pub empty_program : Program
empty_program = record { languages = []; metafunctions = []; judgements = []; relations = [] }

-- what is known before the first form of a file of this scope, whose judgements have these languages, and which asks for cross nonterminals to
-- these, and whose languages have these binding forms
abbrev pub nothing_in : Scope → List (List ℕ × List ℕ) → List (List ℕ) → List Bound → Known
nothing_in S ls ys bs = record { scope = S; languages = ls; ends = ys; program = empty_program; forms = bs }

-- a program with one more of what a form can define
abbrev pub extended_by : Program → Defined → Program
extended_by P (language L) = record P { languages = P.languages ++ L ∷ [] }
extended_by P (metafunction F) = record P { metafunctions = P.metafunctions ++ F ∷ [] }
extended_by P (judgement J) = record P { judgements = P.judgements ++ J ∷ [] }
extended_by P (relation R) = record P { relations = P.relations ++ R ∷ [] }

-- what is defined as it is known behind its form: a language has the cross nonterminals for which the file asks
abbrev pub known_as : List (List ℕ) → Defined → Defined
known_as ys (language L) = language (crossed_for ys L)
known_as ys (metafunction F) = metafunction F
known_as ys (judgement J) = judgement J
known_as ys (relation R) = relation R

-- what is known with one more of what a form can define
abbrev pub with_definition : Known → Defined → Known
with_definition K x = record K { program = extended_by K.program (known_as K.ends x) }

-- a language, a metafunction, a judgement or a relation has this name: they share one space of names
abbrev pub is_taken : Known → List ℕ → Bool
is_taken K x =
    is_some (language_named K.program x)
    || is_some (metafunction_named K.program x)
    || is_some (judgement_named K.program x)
    || is_some (relation_named K.program x)

-- a language that is not known counts as one without nonterminals
abbrev pub or_empty : Option Language → Language
or_empty None = empty_language
or_empty (Some L) = L

-- the second of the first of these pairs that has this name first
abbrev pub paired_with : List (List ℕ × List ℕ) → List ℕ → Option (List ℕ)
paired_with [] x = None
paired_with (l ∷ ls) x = if bytes_eq l.0 x then Some l.1 else paired_with ls x

-- the name of the language of the judgement of this name, where the file has one: it is that of its first form
abbrev pub judgement_language : Known → List ℕ → Option (List ℕ)
judgement_language K x = paired_with K.languages x

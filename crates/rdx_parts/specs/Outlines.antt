-- What cases, clauses and rules have in common: what they take, what each binding has to meet, and a result; and the outline of a form: what its late
-- checks and its reading want of it.
use Rattle.std.specs.Prelude.{ℕ, Bool, List, ◌++◌, Option, flat_map}
use Rattle.rdx_sexp.specs.Sexp.{Sexp}
use Rattle.rdx_lang.specs.Patterns.{Pattern, seq}
use Rattle.rdx_patterns.specs.Occurrences.{Occurrence, occurrences}
use Rattle.rdx_patterns.specs.PatternChecks as patterns
use Rattle.rdx_patterns.specs.Reading.{reading}
use Rattle.rdx_patterns.specs.declared.patterns.position.Position.TheVariants.{Query}
use Rattle.rdx_templates.specs.Scope.{Scope}
use Rattle.rdx_parts.specs.Arguments.{Arguments}
use Rattle.rdx_parts.specs.ExtraForms.{ExtraPlace}
use Rattle.rdx_parts.specs.ExtraReading.{argument_items, list_reading}
use Rattle.rdx_parts.specs.Stands.{argument_occurrences, bound_among, bound_by_extras}

-- what a case, a clause, a conclusion or a premise takes
pub data Takes : Type 0 where
  -- one term, by this pattern
  one : Sexp → Takes
  -- a list of arguments, by these items of a list pattern
  several : List Sexp → Takes
  -- a list of arguments, each by one of these patterns, which stand by themselves
  each : List Sexp → Takes

-- a case or a clause without its arrow or its name; its place says which of them it is
pub record Branch : Type 0 where
  pub takes : Takes
  pub place : ExtraPlace
  pub extras : List Sexp
  pub result : Sexp

-- what stands in what is taken
abbrev pub taken_occurrences : Takes → List Occurrence
taken_occurrences (one p) = occurrences 0 p
taken_occurrences (several ds) = argument_occurrences ds
taken_occurrences (each ds) = flat_map (occurrences 0) ds

-- the symbols that bind names in it
abbrev pub bound_by_taken : List (List ℕ) → Takes → List patterns.Bound
bound_by_taken ns w = bound_among ns (taken_occurrences w)

-- the pattern of it
abbrev pub taken_reading : List (List ℕ) → Takes → Pattern
taken_reading ns (one p) = reading ns Query p
taken_reading ns (several ds) = seq (argument_items ns ds)
taken_reading ns (each ds) = list_reading ns ds

-- the symbols that bind names in a branch
abbrev pub bound_by_branch : Scope → List (List ℕ) → Branch → List patterns.Bound
bound_by_branch S ns b = bound_by_taken ns b.takes ++ bound_by_extras b.place S ns b.extras

-- a rule of a judgement: the arguments of its conclusion, its premises, and whether the conclusion is written last
pub record RuleBranch : Type 0 where
  pub arguments : Arguments
  pub premises : List Sexp
  pub is_last : Bool

-- a premise by itself, before which no name is bound, and a template behind it, where there is one
pub record Question : Type 0 where
  pub premise : Sexp
  pub result : Option Sexp

-- ---- of a form

-- patterns that stand by themselves, branches, rules of a judgement, and premises by themselves
pub record Outline : Type 0 where
  pub alone : List Sexp
  pub branches : List Branch
  pub rules : List RuleBranch
  pub questions : List Question

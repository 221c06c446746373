-- What a form can ask.
use Rattle.std.specs.Prelude.{◌≡◌, ℕ, Bool, List, Option, Some, IsSome}
use Rattle.rdx_lang.specs.Patterns.{Pattern}
use Rattle.rdx_lang.specs.Programs.{Judgement, Premise, Program, Relation, language_named, judgement_named, relation_named}
use Rattle.rdx_lang.specs.Templates.{Host, Template}
use Rattle.rdx_alpha.specs.Forms.{Form}

-- a query, over what a host expression makes: in the language of a name, the bindings by which a pattern matches it, whether there are some, or
-- what the pattern splits it into; itself; or, by the relation of a name, the terms that it leads to, the steps with the names of their rules, or the
-- terms at which one comes by the choices with which a file is run
pub data Query : Type 0 where
  matches : List ℕ → Pattern → Host → Query
  whether : List ℕ → Pattern → Host → Query
  splits : List ℕ → Pattern → Host → Query
  value : Host → Query
  -- of a premise, whether it is met, or what a template makes of the bindings that meet it
  holds : Premise → Option Template → Query
  reducts : List ℕ → Host → Query
  tagged : List ℕ → Host → Query
  stepper : List ℕ → Host → Query
  -- in the language of a name, a term generated of the pattern with a size, from the words of a seed; or whether a host expression makes #f for a
  -- binding by which the pattern matches one of so many generated terms, from the words of a seed
  generate : List ℕ → Pattern → ℕ → ℕ → Query
  check : List ℕ → Pattern → Host → ℕ → ℕ → Query
  -- under binding forms, whether what two host expressions make is alpha equivalent; or what the first makes with what the third makes put for the
  -- symbol that the second makes
  alike : List Form → Host → Host → Query
  substituted : List Form → Host → Host → Host → Query
  -- a test: that two host expressions make the same; that the relation of a name leads from what one makes to what the others make, in one step, or
  -- where the run from it ends; that a pattern matches what one makes, or that it does not; or that a premise is met
  test_equal : Host → Host → Query
  test_step : List ℕ → Host → List Host → Query
  test_run : List ℕ → Host → List Host → Query
  test_match : List ℕ → Pattern → Host → Bool → Query
  test_holds : Premise → Query
  -- how many tests passed since this was asked last, and how many failed
  test_results : Query

-- a relation of this name is known, and its language is
pub record KnowsRelation (P : Program) (x : List ℕ) : Type 0 where
  pub relation : Relation
  pub named : relation_named P x ≡ Some relation
  pub language : IsSome (language_named P relation.language)

-- a judgement of this name is known, and its language is
pub record KnowsJudgement (P : Program) (x : List ℕ) : Type 0 where
  pub judgement : Judgement
  pub named : judgement_named P x ≡ Some judgement
  pub language : IsSome (language_named P judgement.language)

-- what the query names is known
abbrev pub NamesKnown : Program → Query → Type 0
NamesKnown P (matches name p h) = IsSome (language_named P name)
NamesKnown P (whether name p h) = IsSome (language_named P name)
NamesKnown P (splits name p h) = IsSome (language_named P name)
NamesKnown P (value h) = Unit {0}
NamesKnown P (holds q t) = KnowsJudgement P q.judgement
NamesKnown P (reducts name h) = KnowsRelation P name
NamesKnown P (tagged name h) = KnowsRelation P name
NamesKnown P (stepper name h) = KnowsRelation P name
NamesKnown P (generate name p size seed) = IsSome (language_named P name)
NamesKnown P (check name p h attempts seed) = IsSome (language_named P name)
NamesKnown P (alike fs h k) = Unit {0}
NamesKnown P (substituted fs h k l) = Unit {0}
NamesKnown P (test_equal h k) = Unit {0}
NamesKnown P (test_step name h ks) = KnowsRelation P name
NamesKnown P (test_run name h ks) = KnowsRelation P name
NamesKnown P (test_match name p h wanted) = IsSome (language_named P name)
NamesKnown P (test_holds q) = KnowsJudgement P q.judgement
NamesKnown P test_results = Unit {0}

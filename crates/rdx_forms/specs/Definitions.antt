-- What a form can define.
use Rattle.rdx_lang.specs.Edges.{IsFree}
use Rattle.rdx_lang.specs.Patterns.{Language}
use Rattle.rdx_lang.specs.Programs.{Judgement, Metafunction, Relation}

-- a language, a metafunction, a judgement, or a relation
pub data Defined : Type 0 where
  language : Language → Defined
  metafunction : Metafunction → Defined
  judgement : Judgement → Defined
  relation : Relation → Defined

-- what is asked of it beside the checks: a language is free of left recursion
abbrev pub IsSound : Defined → Type 0
IsSound (language L) = IsFree L
IsSound (metafunction F) = Unit {0}
IsSound (judgement J) = Unit {0}
IsSound (relation R) = Unit {0}

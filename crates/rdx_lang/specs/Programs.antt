-- What a file defines, as plain data: languages, metafunctions, judgement forms and reduction relations (after the Redex reference manual, "Other
-- Relations" and "Reduction Relations").
use Rattle.std.specs.Prelude.{ℕ, Bool, List, [], ◌∷◌, Option, Some, None, bytes_eq, if◌then◌else◌}
use Rattle.rdx_lang.specs.Patterns.{Pattern, Language}
use Rattle.rdx_lang.specs.Templates.{Template, Host}

-- what a premise asks of a judgement: its name, what makes its inputs, one after the other, and a pattern for the list of its outputs
pub record Premise : Type 0 where
  pub judgement : List ℕ
  pub inputs : List Template
  pub outputs : Pattern

-- what a binding has to meet: what the template makes matches the pattern; the host expression does not make false; or the judgement has outputs,
-- for what the inputs are, that match the pattern. The names of a pattern are bound from there on, and so is a name that stands for a fresh symbol
pub data Extra : Type 0 where
  such_as : Pattern → Template → Extra
  provided : Host → Extra
  holds : Premise → Extra
  fresh : List ℕ → Extra

-- a clause of a metafunction: which lists of arguments it takes, what each binding has to meet, one after the other, and what makes the value
pub record Clause : Type 0 where
  pub arguments : Pattern
  pub extras : List Extra
  pub result : Template

-- a metafunction: its name, that of its language, its contract, where it has one, of the list of arguments and of the value, and its clauses
-- in their order
pub record Metafunction : Type 0 where
  pub name : List ℕ
  pub language : List ℕ
  pub contract : Option (Pattern × Pattern)
  pub clauses : List Clause

-- for each argument of a judgement whether it is an input; else it is an output
abbrev pub Mode : Type 0
Mode = List Bool

-- a rule of a judgement: its name, which lists of inputs it is for, what each binding has to meet, one premise after the other, and what makes
-- the outputs, one after the other
pub record JudgementRule : Type 0 where
  pub name : Option (List ℕ)
  pub inputs : Pattern
  pub extras : List Extra
  pub outputs : List Template

-- a judgement: its name, that of its language, its mode, its contract, where it has one, of the list of inputs and of the list of outputs, and its
-- rules in their order
pub record Judgement : Type 0 where
  pub name : List ℕ
  pub language : List ℕ
  pub mode : Mode
  pub contract : Option (Pattern × Pattern)
  pub rules : List JudgementRule

-- a rule of a relation: its name, which terms it takes a step from, what each binding has to meet, one after the other, and what the step leads to
pub record Rule : Type 0 where
  pub name : Option (List ℕ)
  pub pattern : Pattern
  pub extras : List Extra
  pub result : Template

-- a relation: its name, that of its language, the terms that it is over, where it says so, and its rules in their order
pub record Relation : Type 0 where
  pub name : List ℕ
  pub language : List ℕ
  pub domain : Option Pattern
  pub rules : List Rule

-- what a file defines, in its order
pub record Program : Type 0 where
  pub languages : List Language
  pub metafunctions : List Metafunction
  pub judgements : List Judgement
  pub relations : List Relation

-- the first of these languages that has this name
abbrev pub language_among : List Language → List ℕ → Option Language
language_among [] x = None
language_among (L ∷ Ls) x = if bytes_eq L.name x then Some L else language_among Ls x

-- the language of a program that has this name
abbrev pub language_named : Program → List ℕ → Option Language
language_named P x = language_among P.languages x

-- the first of these metafunctions that has this name
abbrev pub metafunction_among : List Metafunction → List ℕ → Option Metafunction
metafunction_among [] x = None
metafunction_among (M ∷ Ms) x = if bytes_eq M.name x then Some M else metafunction_among Ms x

-- the metafunction of a program that has this name
abbrev pub metafunction_named : Program → List ℕ → Option Metafunction
metafunction_named P x = metafunction_among P.metafunctions x

-- the first of these judgements that has this name
abbrev pub judgement_among : List Judgement → List ℕ → Option Judgement
judgement_among [] x = None
judgement_among (J ∷ Js) x = if bytes_eq J.name x then Some J else judgement_among Js x

-- the judgement of a program that has this name
abbrev pub judgement_named : Program → List ℕ → Option Judgement
judgement_named P x = judgement_among P.judgements x

-- the first of these relations that has this name
abbrev pub relation_among : List Relation → List ℕ → Option Relation
relation_among [] x = None
relation_among (R ∷ Rs) x = if bytes_eq R.name x then Some R else relation_among Rs x

-- the relation of a program that has this name
abbrev pub relation_named : Program → List ℕ → Option Relation
relation_named P x = relation_among P.relations x

-- What follows from the definitions, stated for the contracts of the module of laws.
use Rattle.std.specs.Prelude.{◌≡◌, ◌⊎◌, ℕ, Bool, List, [], IsTrue}
use Rattle.rdx_sexp.specs.Sexp.{Sexp}
use Rattle.rdx_sexp.specs.Size.{AreFileData}
use Rattle.rdx_lang.specs.Members.{In}
use Rattle.rdx_lang.specs.Patterns.{Language}
use Rattle.rdx_lang.specs.Programs.{Program, Relation, Rule}
use Rattle.rdx_lang.specs.Valid.{is_valid}
use Rattle.rdx_lang.specs.WellFormed.{IsWellFormed}
use Rattle.rdx_eval.specs.Laws.{AreFree}
use Rattle.rdx_patterns.specs.Refusal.{Refusal}
use Rattle.rdx_query.specs.Writing.{Writes, WritesWhy}
use Rattle.rdx_query.specs.File.{IsFile, IsFileRefusal}
use Rattle.rdx_reduce.specs.ClosureLaws.{LeavesAName}
use Rattle.rdx_answer.specs.Explained.{said_text}
use Rattle.rdx_answer.specs.Queries.{Query}
use Rattle.rdx_query.specs.ValidQueries.{are_valid_queries}

-- data that are accepted define the same and ask the same, however their forms are read
abbrev pub OneMeaning : Type 0
OneMeaning = (ds : List Sexp) (P Q : Program) (qs rs : List Query) → IsFile ds P qs → IsFile ds Q rs → (P ≡ Q) × (qs ≡ rs)

-- where the data of a file of at most 1,048,576 bytes are accepted, the metafunctions, judgements and relations that they define are valid, and what
-- they define goes by different names; a metafunction or a judgement may be defined behind its use
abbrev pub AcceptedIsValid : Type 0
AcceptedIsValid = (ds : List Sexp) (P : Program) (qs : List Query) → AreFileData ds → IsFile ds P qs → IsTrue (is_valid P)

-- each of their languages, with all cross nonterminals that it has, is well formed
abbrev pub AcceptedLanguagesAreWellFormed : Type 0
AcceptedLanguagesAreWellFormed =
    (ds : List Sexp) (P : Program) (qs : List Query) (L : Language) → AreFileData ds → IsFile ds P qs → In L P.languages → IsWellFormed L

-- and free of left recursion, whatever the size of the data, as the laws of listings, evaluation, steps and runs ask
abbrev pub AcceptedLanguagesAreFree : Type 0
AcceptedLanguagesAreFree = (ds : List Sexp) (P : Program) (qs : List Query) → IsFile ds P qs → AreFree P

-- each query is valid: what it names is defined, in the end
abbrev pub AcceptedQueriesAreValid : Type 0
AcceptedQueriesAreValid = (ds : List Sexp) (P : Program) (qs : List Query) → AreFileData ds → IsFile ds P qs → IsTrue (are_valid_queries P qs)

-- and each rule of a relation leaves the name of a context free, as the laws of closures ask
abbrev pub AcceptedLeaveNames : Type 0
AcceptedLeaveNames =
    (ds : List Sexp) (P : Program) (qs : List Query) (R : Relation) (r : Rule) → AreFileData ds → IsFile ds P qs → In R P.relations
    → In r R.rules → LeavesAName r

-- by the same choices data write one text at most, and it is the same of each whether all that they state is met
abbrev pub OneText : Type 0
OneText = (ds : List Sexp) (cs t u : List ℕ) (m n : Bool) → Writes ds cs t m → Writes ds cs u n → (t ≡ u) × (m ≡ n)

-- data have one refusal at most
abbrev pub OneRefusal : Type 0
OneRefusal = (ds : List Sexp) (r q : Refusal) → IsFileRefusal ds r → IsFileRefusal ds q → r ≡ q

-- data that are accepted are not refused
abbrev pub NeverBothAcceptedAndRefused : Type 0
NeverBothAcceptedAndRefused = (ds : List Sexp) (P : Program) (qs : List Query) (r : Refusal) → IsFile ds P qs → IsFileRefusal ds r → ⊥

-- data that are refused write nothing
abbrev pub NeverBothTextAndRefusal : Type 0
NeverBothTextAndRefusal = (ds : List Sexp) (cs text : List ℕ) (met : Bool) (r : Refusal) → Writes ds cs text met → IsFileRefusal ds r → ⊥

-- the data are accepted
pub record AreAccepted (ds : List Sexp) : Type 0 where
  pub program : Program
  pub queries : List Query
  pub accepted : IsFile ds program queries

-- the data are refused
pub record AreRefused (ds : List Sexp) : Type 0 where
  pub refusal : Refusal
  pub refused : IsFileRefusal ds refusal

-- data are accepted or refused
abbrev pub NeverNeither : Type 0
NeverNeither = (ds : List Sexp) → AreAccepted ds ⊎ AreRefused ds

-- the data write something by these choices
pub record DoWrite (ds : List Sexp) (cs : List ℕ) : Type 0 where
  pub text : List ℕ
  pub met : Bool
  pub written : Writes ds cs text met

-- data write some text or are refused: each query that is accepted has an answer, whatever the choices
abbrev pub SomeTextOrRefusal : Type 0
SomeTextOrRefusal = (ds : List Sexp) (cs : List ℕ) → DoWrite ds cs ⊎ AreRefused ds

-- the data write this text with derivations too: it is a text with derivations that is the other one without them
pub record DoExplain (ds : List Sexp) (plain : List ℕ) (met : Bool) : Type 0 where
  pub text : List ℕ
  pub written : WritesWhy ds text met
  pub said : said_text written.explained.parts ≡ plain

-- data of a file that write a text as they are run write it with derivations
abbrev pub EachTextIsExplained : Type 0
EachTextIsExplained = (ds : List Sexp) (plain : List ℕ) (met : Bool) → AreFileData ds → Writes ds [] plain met → DoExplain ds plain met

-- What a file writes, and whether all is met that it states.
use Rattle.std.specs.Prelude.{ℕ, Bool, List}
use Rattle.rdx_sexp.specs.Sexp.{Sexp}
use Rattle.rdx_lang.specs.Programs.{Program}
use Rattle.rdx_answer.specs.Answering.{AreAnswers}
use Rattle.rdx_answer.specs.Explained.{WritesExplained}
use Rattle.rdx_answer.specs.Queries.{Query}
use Rattle.rdx_answer.specs.Tests.{no_tests}
use Rattle.rdx_query.specs.File.{IsFile}

-- the data of a file are accepted, this is the text that they write with derivations, and this is whether all is met that they state
pub record WritesWhy (ds : List Sexp) (text : List ℕ) (met : Bool) : Type 0 where
  pub program : Program
  pub queries : List Query
  pub accepted : IsFile ds program queries
  pub explained : WritesExplained program no_tests queries text met

-- the data of a file are accepted, this is the text that they write where walks go by these choices, and this is whether all is met that they state
pub record Writes (ds : List Sexp) (cs : List ℕ) (text : List ℕ) (met : Bool) : Type 0 where
  pub program : Program
  pub queries : List Query
  pub accepted : IsFile ds program queries
  pub answers : AreAnswers program cs no_tests queries text met

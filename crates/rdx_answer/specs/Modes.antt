-- What a file writes in each mode.
use Rattle.std.specs.Prelude.{ℕ, Bool, List, []}
use Rattle.rdx_lang.specs.Programs.{Program}
use Rattle.rdx_answer.specs.Answering.{AreAnswers}
use Rattle.rdx_answer.specs.Explained.{WritesExplained}
use Rattle.rdx_answer.specs.Queries.{Query}
use Rattle.rdx_answer.specs.Tests.{Counts}
use Rattle.rdx_answer.specs.declared.answers.Mode.{Mode}
use Rattle.rdx_answer.specs.declared.answers.Mode.TheVariants.{Run, Step, Why}

-- what is found is to be explained
abbrev pub IsWhy : Mode → Type 0
IsWhy Run = ⊥
IsWhy (Step choices) = ⊥
IsWhy Why = Unit {0}

-- what is written for the queries in this mode, and whether all is met: the answers, where walks take no step or go by the choices; or those, and
-- derivations below them
abbrev pub AreAnswersIn : Mode → Program → Counts → List Query → List ℕ → Bool → Type 0
AreAnswersIn Run P c qs text met = AreAnswers P [] c qs text met
AreAnswersIn (Step choices) P c qs text met = AreAnswers P choices.items c qs text met
AreAnswersIn Why P c qs text met = WritesExplained P c qs text met

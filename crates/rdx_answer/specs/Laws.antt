-- What follows from the definitions: what is written with derivations is the text of a run with derivations between, and the answers of a run are
-- written so, where what is asked can be explained.
use Rattle.std.specs.Prelude.{◌≡◌, ℕ, Bool, List, []}
use Rattle.rdx_lang.specs.Programs.{Program}
use Rattle.rdx_answer.specs.Answering.{AreAnswers}
use Rattle.rdx_answer.specs.Explained.{Part, said_text, AreExplained, IsExplainable}
use Rattle.rdx_answer.specs.Queries.{Query}
use Rattle.rdx_answer.specs.Tests.{Counts}

-- without its derivations, what is written is the text of a run without choices, and as much of it is met
abbrev pub WhatIsExplainedIsAnswered : Type 0
WhatIsExplainedIsAnswered =
    (P : Program) (c : Counts) (qs : List Query) (ps : List Part) (met : Bool) → AreExplained P c qs ps met
    → AreAnswers P [] c qs (said_text ps) met

-- parts of answers to the queries, with derivations, that say this text
pub record ExplainsAnswers (P : Program) (c : Counts) (qs : List Query) (text : List ℕ) (met : Bool) : Type 0 where
  pub parts : List Part
  pub explained : AreExplained P c qs parts met
  pub said : said_text parts ≡ text

-- each text of a run without choices can be explained, where each query can, in a valid program whose languages are well formed
abbrev pub EachAnswerIsExplained : Type 0
EachAnswerIsExplained =
    (P : Program) (c : Counts) (qs : List Query) (text : List ℕ) (met : Bool) → IsExplainable P qs → AreAnswers P [] c qs text met
    → ExplainsAnswers P c qs text met

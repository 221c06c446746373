-- Worked examples: files, with what `run` writes for them and the verdict, and words of the command line. They are proved, as the clauses of
-- `laws::worked_examples`.
use Rattle.std.specs.Prelude.{ℕ, ◌<◌, List, [], ◌∷◌, length, codes}
use Rattle.rdx_cli.specs.Transcript.{IsTranscript}
use Rattle.rdx_cli.specs.declared.transcript.Verdict.TheVariants.{Done, Refused}
use Rattle.rdx_cli.specs.Words.{run, step, workload, terms, ReadsAs, FitsNoRow}

-- ---- files

-- A file with a language and two queries, which are answered in their order: `any_x` comes before `any_y`, whatever the order in the pattern,
-- and the second query binds nothing.
abbrev pub QueriesAreAnswered : Type 0
QueriesAreAnswered =
    IsTranscript run (codes "(define-language L (e 1)) (redex-match L (any_y any_x) (term (1 2))) (redex-match L 1 (term 1))")
    (codes "match 1\n  any_x = 2, any_y = 1\nmatch 1\n  -\n") Done

-- a file of comments alone has no form, and so it is answered by nothing: `#; a ; b`
abbrev pub CommentsAreAnswered : Type 0
CommentsAreAnswered = IsTranscript run (codes "#; a ; b") [] Done

-- data with a form that is refused have its line alone: no form defines the language `M`, whose name stands in column 14
abbrev pub FormIsRefused : Type 0
FormIsRefused = IsTranscript run (codes "(redex-match M e (term 1))") (codes "refused S2 UnknownLanguage at 1:14 M\n") Refused

-- a file that is no data has the line of its first fault, at its place: `(]`
abbrev pub BracketIsRefused : Type 0
BracketIsRefused = IsTranscript run (codes "(]") (codes "refused F3 WrongClose at 1:2\n") Refused

-- a file that is no text has the line of its first byte that is no UTF-8: 255, behind a closing bracket, which is no fault then
abbrev pub NoTextIsRefused : Type 0
NoTextIsRefused = IsTranscript run (41 ∷ 255 ∷ []) (codes "refused F1 NotUtf8 at 1:2\n") Refused

-- a file of more than 1,048,576 bytes has the line of its length, whatever stands in it
abbrev pub LongFileIsRefused : Type 0
LongFileIsRefused = (bytes : List ℕ) → 1_048_576 < length bytes → IsTranscript run bytes (codes "refused F9 TooLong\n") Refused

-- ---- words that are a row of the table

-- `step` alone is the row without choices
abbrev pub StepAlone : Type 0
StepAlone = ReadsAs (codes "step" ∷ []) (step [])

-- the most tests that may be asked for: `workload 2000`
abbrev pub MostTests : Type 0
MostTests = ReadsAs (codes "workload" ∷ codes "2000" ∷ []) (workload 2000)

-- the largest size up to which terms are listed: `terms n 40`
abbrev pub LargestSize : Type 0
LargestSize = ReadsAs (codes "terms" ∷ codes "n" ∷ codes "40" ∷ []) (terms (codes "n") 40)

-- ---- words that are none

-- no words at all
abbrev pub NoWords : Type 0
NoWords = FitsNoRow []

-- behind `run` no word may stand: `run run`
abbrev pub WordsBehindRun : Type 0
WordsBehindRun = FitsNoRow (codes "run" ∷ codes "run" ∷ [])

-- a number has no zero in front: `step 01`
abbrev pub ZeroInFront : Type 0
ZeroInFront = FitsNoRow (codes "step" ∷ codes "01" ∷ [])

-- there is one test at least: `workload 0`
abbrev pub NoTests : Type 0
NoTests = FitsNoRow (codes "workload" ∷ codes "0" ∷ [])

-- and 2,000 at most: `workload 2001`
abbrev pub TooManyTests : Type 0
TooManyTests = FitsNoRow (codes "workload" ∷ codes "2001" ∷ [])

-- `hole` is no name: `terms hole 5`
abbrev pub HoleIsNoName : Type 0
HoleIsNoName = FitsNoRow (codes "terms" ∷ codes "hole" ∷ codes "5" ∷ [])

-- the size is 40 at most: `terms n 41`
abbrev pub TooLarge : Type 0
TooLarge = FitsNoRow (codes "terms" ∷ codes "n" ∷ codes "41" ∷ [])

-- it has no zero in front: `terms n 05`
abbrev pub ZeroBeforeSize : Type 0
ZeroBeforeSize = FitsNoRow (codes "terms" ∷ codes "n" ∷ codes "05" ∷ [])

-- and it is 1 at least: `terms n 0`
abbrev pub NoSize : Type 0
NoSize = FitsNoRow (codes "terms" ∷ codes "n" ∷ codes "0" ∷ [])

-- Rows of the table, as the code has them.
use Rattle.std.specs.Prelude.{◌≡◌, ◌<◌, ◌≤◌, ℕ, IsTrue, List, [], ◌∷◌, map, codes, decimal}
use Rattle.std.specs.declared.option.Option.{Option}
use Rattle.rdx_term.specs.Spelling.{is_name}
use Rattle.rdx_answer.specs.declared.answers.Mode.{Mode}
use Rattle.rdx_answer.specs.declared.answers.Mode.TheVariants as mode
use Rattle.rdx_cli.specs.Reading.{IsRead}
use Rattle.rdx_cli.specs.Words.{run, why, workload, typeset, format, terms, AreSmall, ReadsAs, texts}
use Rattle.rdx_cli.specs.Transcript.{FormatWrites, RunWrites, TermsWrites, TypesetWrites, WhyWrites, WorkloadWrites}
use Rattle.rdx_cli.specs.declared.transcript.Verdict.{Verdict}
use Rattle.rdx_cli.specs.declared.words.Row.{Row}
use Rattle.rdx_cli.specs.declared.words.Row.TheVariants.{Run, Why, Step, Workload, Typeset, Format, Terms}

-- ---- words

-- this word is this number, of nine digits at most
pub record IsNumber (word : List ℕ) (n : ℕ) : Type 0 where
  pub word_is : word ≡ decimal n
  pub small : n < 1_000_000_000

-- this word is none
abbrev pub IsNoNumber : List ℕ → Type 0
IsNoNumber word = (n : ℕ) → IsNumber word n → ⊥

-- these words are these numbers
pub record AreNumbers (words : List (List ℕ)) (numbers : List ℕ) : Type 0 where
  pub words_are : words ≡ map decimal numbers
  pub small : AreSmall numbers

-- these words are some numbers
pub record AreSomeNumbers (words : List (List ℕ)) : Type 0 where
  pub numbers : List ℕ
  pub numbers_are : AreNumbers words numbers

-- this word is this number, from 1 to the most that is allowed
pub record IsCount (word : List ℕ) (most n : ℕ) : Type 0 where
  pub word_is : word ≡ decimal n
  pub some : 1 ≤ n
  pub few : n ≤ most

-- ---- rows

-- the words are this row
abbrev pub Reads : List (List ℕ) → Row → Type 0
Reads words Run = ReadsAs words run
Reads words Why = ReadsAs words why
Reads words (Step choices) = (words ≡ codes "step" ∷ texts choices.now) × AreSomeNumbers (texts choices.now)
Reads words (Workload n) = ReadsAs words (workload n)
Reads words Typeset = ReadsAs words typeset
Reads words Format = ReadsAs words format
Reads words (Terms x k) = ReadsAs words (terms x.now k)

-- what the row carries is what the table asks for
abbrev pub IsFit : Row → Type 0
IsFit Run = Unit {0}
IsFit Why = Unit {0}
IsFit (Step choices) = AreSomeNumbers (texts choices.now)
IsFit (Workload n) = (1 ≤ n) × (n ≤ 2000)
IsFit Typeset = Unit {0}
IsFit Format = Unit {0}
IsFit (Terms x k) = IsTrue (is_name x.now) × (k ≤ 40)

-- it is that of the workload
abbrev pub IsWorkload : Row → Type 0
IsWorkload Run = ⊥
IsWorkload Why = ⊥
IsWorkload (Step choices) = ⊥
IsWorkload (Workload n) = Unit {0}
IsWorkload Typeset = ⊥
IsWorkload Format = ⊥
IsWorkload (Terms x k) = ⊥

-- the bytes are those that the row asks the source for
abbrev pub TakenBy : Row → Option (List ℕ) → Option (List ℕ) → List ℕ → Type 0
TakenBy Run left rest bytes = IsRead left rest bytes
TakenBy Why left rest bytes = IsRead left rest bytes
TakenBy (Step choices) left rest bytes = IsRead left rest bytes
TakenBy (Workload n) left rest bytes = (rest ≡ left) × (bytes ≡ [])
TakenBy Typeset left rest bytes = IsRead left rest bytes
TakenBy Format left rest bytes = IsRead left rest bytes
TakenBy (Terms x k) left rest bytes = IsRead left rest bytes

-- what is written for a file where walks go by the choices that these words are
pub record StepWrites (words : List (List ℕ)) (bytes text : List ℕ) (verdict : Verdict) : Type 0 where
  pub choices : List ℕ
  pub choices_are : AreNumbers words choices
  pub written : RunWrites choices bytes text verdict

-- what is written for a file that is answered in this mode
abbrev pub WritesIn : Mode → List ℕ → List ℕ → Verdict → Type 0
WritesIn mode.Run bytes text verdict = RunWrites [] bytes text verdict
WritesIn (mode.Step choices) bytes text verdict = RunWrites choices.items bytes text verdict
WritesIn mode.Why bytes text verdict = WhyWrites bytes text verdict

-- what the row writes for a file of these bytes
abbrev pub Writes : Row → List ℕ → List ℕ → Verdict → Type 0
Writes Run bytes text verdict = RunWrites [] bytes text verdict
Writes Why bytes text verdict = WhyWrites bytes text verdict
Writes (Step choices) bytes text verdict = StepWrites (texts choices.now) bytes text verdict
Writes (Workload n) bytes text verdict = WorkloadWrites n text verdict
Writes Typeset bytes text verdict = TypesetWrites bytes text verdict
Writes Format bytes text verdict = FormatWrites bytes text verdict
Writes (Terms x k) bytes text verdict = TermsWrites x.now k bytes text verdict

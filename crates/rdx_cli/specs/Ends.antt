-- How a run ends.
use Rattle.std.specs.Prelude.{◌≡◌, ℕ, List, []}
use Rattle.std.specs.declared.option.Option.{Option}
use Rattle.rdx_base.specs.Putting.{Gains, GainsPrefix}
use Rattle.rdx_cli.specs.Reading.{IsRead}
use Rattle.rdx_cli.specs.Words.{Row, run, why, step, workload, typeset, format, terms, ReadsAs}
use Rattle.rdx_cli.specs.Transcript.{IsTranscript}
use Rattle.rdx_cli.specs.declared.transcript.Verdict.{Verdict}
use Rattle.rdx_cli.specs.declared.transcript.Verdict.TheVariants as verdict
use Rattle.rdx_cli.specs.declared.top.Status.{Status}
use Rattle.rdx_cli.specs.declared.top.Status.TheVariants.{Done, Unmet, Refused, Usage, ReadFault, WriteFault, NoMemory}

-- ---- statuses

-- the number of a status
abbrev pub code_of : Status → ℕ
code_of Done = 0
code_of Unmet = 1
code_of Refused = 2
code_of Usage = 3
code_of ReadFault = 4
code_of WriteFault = 5
code_of NoMemory = 6

-- the status of a verdict
abbrev pub status_of : Verdict → Status
status_of verdict.Done = Done
status_of verdict.Unmet = Unmet
status_of verdict.Refused = Refused

-- the run came to its end: a whole transcript was written
abbrev pub IsFinished : Status → Type 0
IsFinished Done = Unit {0}
IsFinished Unmet = Unit {0}
IsFinished Refused = Unit {0}
IsFinished Usage = ⊥
IsFinished ReadFault = ⊥
IsFinished WriteFault = ⊥
IsFinished NoMemory = ⊥

-- the run ended before its first put
abbrev pub IsSilent : Status → Type 0
IsSilent Done = ⊥
IsSilent Unmet = ⊥
IsSilent Refused = ⊥
IsSilent Usage = Unit {0}
IsSilent ReadFault = Unit {0}
IsSilent WriteFault = ⊥
IsSilent NoMemory = Unit {0}

-- ---- what was written

-- the bytes are those that the row asks the source for: a file, or none for the workload, which leaves the source as it is
abbrev pub Takes : Row → Option (List ℕ) → Option (List ℕ) → List ℕ → Type 0
Takes run left rest bytes = IsRead left rest bytes
Takes why left rest bytes = IsRead left rest bytes
Takes (step cs) left rest bytes = IsRead left rest bytes
Takes (workload n) left rest bytes = (rest ≡ left) × (bytes ≡ [])
Takes typeset left rest bytes = IsRead left rest bytes
Takes format left rest bytes = IsRead left rest bytes
Takes (terms x k) left rest bytes = IsRead left rest bytes

-- the words have a row, a file was read where that asks for one, and this is what the row writes for it, with the verdict
pub record Transcribes (words : List (List ℕ)) (left rest : Option (List ℕ)) (text : List ℕ) (verdict : Verdict) : Type 0 where
  pub row : Row
  pub bytes : List ℕ
  pub words_are : ReadsAs words row
  pub taken : Takes row left rest bytes
  pub transcript : IsTranscript row bytes text verdict

-- the whole transcript of the file was written, and the status is that of its verdict
pub record WroteWhole (words : List (List ℕ)) (left rest before after : Option (List ℕ)) (status : Status) : Type 0 where
  pub text : List ℕ
  pub verdict : Verdict
  pub transcribed : Transcribes words left rest text verdict
  pub gained : Gains before after text
  pub status_is : status ≡ status_of verdict

-- a prefix of the transcript of the file was written
pub record WrotePrefix (words : List (List ℕ)) (left rest before after : Option (List ℕ)) : Type 0 where
  pub text : List ℕ
  pub verdict : Verdict
  pub transcribed : Transcribes words left rest text verdict
  pub gained : GainsPrefix before after text

-- What follows from the definitions, stated for the contracts of the module of laws.
use Rattle.std.specs.Prelude.{◌≡◌, ℕ, List, [], ◌∷◌, Some, codes}
use Rattle.std.specs.declared.option.Option.{Option}
use Rattle.rdx_lang.specs.Programs.{Program}
use Rattle.rdx_answer.specs.Explained.{Part, said_text, whole_text}
use Rattle.rdx_cli.specs.Ends.{Transcribes}
use Rattle.rdx_cli.specs.Reading.{IsRead}
use Rattle.rdx_cli.specs.Transcript.{IsTranscript}
use Rattle.rdx_cli.specs.declared.transcript.Verdict.{Verdict}
use Rattle.rdx_cli.specs.Words.{Row, run, why, step, workload, typeset, format, terms, ReadsAs}

-- words are one row of the table at most
abbrev pub OneRow : Type 0
OneRow = (words : List (List ℕ)) (row other : Row) → ReadsAs words row → ReadsAs words other → row ≡ other

-- where a source tells what it has left, one file may be read from it, and that leaves one rest
abbrev pub OneFile : Type 0
OneFile =
    (all bytes other : List ℕ) (rest last : Option (List ℕ)) →
    IsRead (Some all) rest bytes → IsRead (Some all) last other → (bytes ≡ other) × (rest ≡ last)

-- the file has a transcript by this row
pub record HasTranscript (row : Row) (bytes : List ℕ) : Type 0 where
  pub text : List ℕ
  pub verdict : Verdict
  pub transcript : IsTranscript row bytes text verdict

-- for each row of the table each file has a transcript
abbrev pub SomeTranscript : Type 0
SomeTranscript = (row : Row) (bytes : List ℕ) → HasTranscript row bytes

-- each row but that for derivations, of which there may be several
abbrev pub SaysOne : Row → Type 0
SaysOne run = Unit {0}
SaysOne why = ⊥
SaysOne (step cs) = Unit {0}
SaysOne (workload n) = Unit {0}
SaysOne typeset = Unit {0}
SaysOne format = Unit {0}
SaysOne (terms x k) = Unit {0}

-- for each such row of the table a file has one transcript and one verdict at most
abbrev pub OneTranscript : Type 0
OneTranscript = (row : Row) (bytes text other : List ℕ) (verdict last : Verdict) → SaysOne row →
    IsTranscript row bytes text verdict → IsTranscript row bytes other last → (text ≡ other) × (verdict ≡ last)

-- where a source tells what it has left, words other than `why` ask for one text and one verdict at most, and leave one rest of the source
abbrev pub OneOutcome : Type 0
OneOutcome =
    (words : List (List ℕ)) (all text other : List ℕ) (rest last : Option (List ℕ)) (verdict end : Verdict) →
    (words ≡ codes "why" ∷ [] → ⊥) → Transcribes words (Some all) rest text verdict → Transcribes words (Some all) last other end → (rest ≡ last) × (text ≡ other) × (verdict ≡ end)

-- a run of the file writes the plain text, with the verdict, and what is written for `why` is that with derivations behind its lines
pub record IsRunExplained (bytes text : List ℕ) (verdict : Verdict) : Type 0 where
  pub plain : List ℕ
  pub run_writes : IsTranscript run bytes plain verdict
  pub program : Program
  pub parts : List Part
  pub said : plain ≡ said_text parts
  pub whole : text ≡ whole_text program parts

-- what is written for `why` is so, where the lines of derivations are left out
abbrev pub WhyIsRun : Type 0
WhyIsRun = (bytes text : List ℕ) (verdict : Verdict) → IsTranscript why bytes text verdict → IsRunExplained bytes text verdict

-- What is written for a file, and the verdict on it.
use Rattle.std.specs.Prelude.{◌≡◌, ℕ, ◌<◌, ◌≤◌, Bool, true, false, not, ◌&&◌, nat_eq, IsTrue, List, [], ◌∷◌, ◌++◌, length, map, Option, Some, None, codes, decimal, if◌then◌else◌}
use Rattle.std.specs.Bool.{IsFalse}
use Rattle.rdx_term.specs.Text.{tree_text}
use Rattle.rdx_term.specs.Tree.{Tree}
use Rattle.rdx_sexp.specs.Reads.{Reads, FirstFault}
use Rattle.rdx_sexp.specs.Sexp.{Sexp}
use Rattle.rdx_sexp.specs.declared.fault.ReadRefusal.{ReadRefusal}
use Rattle.rdx_patterns.specs.Refusal.{Refusal}
use Rattle.rdx_query.specs.Writing.{Writes, WritesWhy}
use Rattle.rdx_query.specs.File.{IsFile, IsFileRefusal}
use Rattle.rdx_sexp.specs.Print.{canonical_text}
use Rattle.rdx_typeset.specs.Forms.{typeset_text}
use Rattle.rdx_lang.specs.Patterns.{Language}
use Rattle.rdx_lang.specs.Programs.{Program}
use Rattle.rdx_lang.specs.References.{is_among}
use Rattle.rdx_lang.specs.WellFormed.{defined}
use Rattle.rdx_lang.specs.declared.pattern.Ref.TheVariants.{Nt}
use Rattle.rdx_enum.specs.UpTo.{TermsUpTo}
use Rattle.rdx_answer.specs.AnswerText.{counted_text}
use Rattle.rdx_answer.specs.Queries.{Query}
use Rattle.rdx_answer.specs.Workload as file
use Rattle.rdx_cli.specs.Refusals.{read_line, form_line, nonterminal_line}
use Rattle.rdx_cli.specs.declared.transcript.Verdict.{Verdict}
use Rattle.rdx_cli.specs.declared.transcript.Verdict.TheVariants.{Done, Unmet, Refused}
use Rattle.rdx_cli.specs.Words.{Row, run, why, step, workload, typeset, format, terms}

-- the file is not too long, and its bytes are these data
pub record AreData (bytes : List ℕ) (ds : List Sexp) : Type 0 where
  pub limit : length bytes ≤ 1_048_576
  pub read : Reads bytes ds

-- The line of a file that is no data. A file of more than 1,048,576 bytes is refused by its length alone, and any other at its first fault.
pub data IsUnread (bytes line : List ℕ) : Type 0 where
  too_long : 1_048_576 < length bytes → line ≡ codes "refused F9 TooLong\n" → IsUnread bytes line
  at_fault : length bytes ≤ 1_048_576 → (r : ReadRefusal) → FirstFault bytes r → line ≡ read_line r → IsUnread bytes line

-- the verdict on a file whose forms are all answered: whether all is met that they state
abbrev pub verdict_of : Bool → Verdict
verdict_of true = Done
verdict_of false = Unmet

-- What is written for a file that is run, where walks go by these choices. A file that is no data has the line that says so. One that is data with a
-- form that is refused has the line of its first such form. For every other file the answers to its queries are written.
pub data RunWrites (cs bytes text : List ℕ) (verdict : Verdict) : Type 0 where
  unread : IsUnread bytes text → verdict ≡ Refused → RunWrites cs bytes text verdict
  refused : (ds : List Sexp) (r : Refusal) → AreData bytes ds → IsFileRefusal ds r → text ≡ form_line r → verdict ≡ Refused → RunWrites cs bytes text verdict
  answered : (ds : List Sexp) (met : Bool) → AreData bytes ds → Writes ds cs text met → verdict ≡ verdict_of met → RunWrites cs bytes text verdict

-- What is written for a file that is run, with derivations of what is found. A file that is not answered has the line that a run writes of it.
pub data WhyWrites (bytes text : List ℕ) (verdict : Verdict) : Type 0 where
  not_read : IsUnread bytes text → verdict ≡ Refused → WhyWrites bytes text verdict
  not_answered : (ds : List Sexp) (r : Refusal) → AreData bytes ds → IsFileRefusal ds r → text ≡ form_line r → verdict ≡ Refused
      → WhyWrites bytes text verdict
  explained : (ds : List Sexp) (met : Bool) → AreData bytes ds → WritesWhy ds text met → verdict ≡ verdict_of met → WhyWrites bytes text verdict

-- What is written for a file that is typeset. A file that is no data, or has a form that is refused, has the line that a run writes of it. Every other
-- file has the typeset text of its forms.
pub data TypesetWrites (bytes text : List ℕ) (verdict : Verdict) : Type 0 where
  unset : IsUnread bytes text → verdict ≡ Refused → TypesetWrites bytes text verdict
  not_set : (ds : List Sexp) (r : Refusal) → AreData bytes ds → IsFileRefusal ds r → text ≡ form_line r → verdict ≡ Refused → TypesetWrites bytes text verdict
  is_set : (ds : List Sexp) (p : Program) (qs : List Query) → AreData bytes ds → IsFile ds p qs → text ≡ typeset_text ds → verdict ≡ Done
      → TypesetWrites bytes text verdict

-- what is written for a file whose data are printed in canonical text, whatever its forms are
pub data FormatWrites (bytes text : List ℕ) (verdict : Verdict) : Type 0 where
  unprinted : IsUnread bytes text → verdict ≡ Refused → FormatWrites bytes text verdict
  printed : (ds : List Sexp) → AreData bytes ds → text ≡ canonical_text ds → verdict ≡ Done → FormatWrites bytes text verdict

-- the last of these, if there are some
abbrev pub last_of : {A : Type 0} → List A → Option A
last_of [] = None
last_of (x ∷ []) = Some x
last_of (x ∷ y ∷ ys) = last_of (y ∷ ys)

-- the last language of a program, in the order of its file
abbrev pub last_language : Program → Option Language
last_language P = last_of P.languages

-- there is such a language, and it has this nonterminal
abbrev pub has_nonterminal : Option Language → List ℕ → Bool
has_nonterminal None x = false
has_nonterminal (Some L) x = is_among (Nt x) (defined L)

-- how many terms there are, and a line for each, behind two blanks
abbrev pub terms_text : List Tree → List ℕ
terms_text ts = counted_text (codes "terms") (map tree_text ts)

-- What is written for a file of which all terms of the nonterminal x up to the size k are listed. A file that is no data, or has a form that is
-- refused, has the line that a run writes of it. Every other file has a line that says that its last language has not this nonterminal, as where it has
-- no language; or the terms, in their order and each once. Its queries are not evaluated.
pub data TermsWrites (x : List ℕ) (k : ℕ) (bytes text : List ℕ) (verdict : Verdict) : Type 0 where
  not_data : IsUnread bytes text → verdict ≡ Refused → TermsWrites x k bytes text verdict
  not_accepted : (ds : List Sexp) (r : Refusal) → AreData bytes ds → IsFileRefusal ds r → text ≡ form_line r → verdict ≡ Refused
      → TermsWrites x k bytes text verdict
  not_there : (ds : List Sexp) (p : Program) (qs : List Query) → AreData bytes ds → IsFile ds p qs → IsFalse (has_nonterminal (last_language p) x)
      → text ≡ nonterminal_line x → verdict ≡ Refused → TermsWrites x k bytes text verdict
  are_listed : (ds : List Sexp) (p : Program) (qs : List Query) (L : Language) (ts : List Tree) → AreData bytes ds → IsFile ds p qs
      → last_language p ≡ Some L → IsTrue (has_nonterminal (Some L) x) → TermsUpTo L (Nt x) k ts → text ≡ terms_text ts → verdict ≡ Done
      → TermsWrites x k bytes text verdict

-- no line ends in it but where it ends itself
abbrev pub is_line : List ℕ → Bool
is_line [] = true
is_line (b ∷ []) = true
is_line (b ∷ c ∷ bs) = not (nat_eq b 10) && is_line (c ∷ bs)

-- the last line of a text, with the line end behind it
abbrev pub last_line : List ℕ → List ℕ
last_line [] = []
last_line (b ∷ bs) = if is_line (b ∷ bs) then b ∷ bs else last_line bs

-- What is written for the workload with n tests: how many there are, and the last line of what is written for its file, which counts them.
pub record WorkloadWrites (n : ℕ) (text : List ℕ) (verdict : Verdict) : Type 0 where
  pub whole : List ℕ
  pub written : RunWrites [] (file.workload n) whole verdict
  pub printed : text ≡ codes "workload " ++ decimal n ++ codes "\n" ++ last_line whole

-- the text that is written for a file and the verdict on it, row by row of the table of words; the workload has a file of its own
abbrev pub IsTranscript : Row → List ℕ → List ℕ → Verdict → Type 0
IsTranscript run bytes text verdict = RunWrites [] bytes text verdict
IsTranscript why bytes text verdict = WhyWrites bytes text verdict
IsTranscript (step cs) bytes text verdict = RunWrites cs bytes text verdict
IsTranscript (workload n) bytes text verdict = WorkloadWrites n text verdict
IsTranscript typeset bytes text verdict = TypesetWrites bytes text verdict
IsTranscript format bytes text verdict = FormatWrites bytes text verdict
IsTranscript (terms x k) bytes text verdict = TermsWrites x k bytes text verdict

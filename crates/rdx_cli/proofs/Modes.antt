-- What is written in each mode.
use Rattle.std.proofs.Common.{◌≡◌, ℕ, Bool, List}
use Rattle.rdx_lang.specs.Programs.{Program}
use Rattle.rdx_patterns.specs.Refusal.{Refusal}
use Rattle.rdx_sexp.specs.Sexp.{Sexp}
use Rattle.rdx_answer.specs.Modes.{AreAnswersIn}
use Rattle.rdx_answer.specs.Queries.{Query}
use Rattle.rdx_answer.specs.Tests.{no_tests}
use Rattle.rdx_answer.specs.declared.answers.Mode.{Mode}
use Rattle.rdx_answer.specs.declared.answers.Mode.TheVariants.{Run, Step, Why}
use Rattle.rdx_query.specs.File.{IsFile, IsFileRefusal}
use Rattle.rdx_cli.specs.Inside.Rows.{WritesIn}
use Rattle.rdx_cli.specs.Refusals.{form_line}
use Rattle.rdx_cli.specs.Transcript.{AreData, IsUnread, verdict_of, unread, refused, answered, not_read, not_answered, explained}
use Rattle.rdx_cli.specs.declared.transcript.Verdict.{Verdict}
use Rattle.rdx_cli.specs.declared.transcript.Verdict.TheVariants.{Refused}

-- a file that is no data
pub unread_in : (m : Mode) (bytes text : List ℕ) (verdict : Verdict) → IsUnread bytes text → verdict ≡ Refused → WritesIn m bytes text verdict
unread_in Run bytes text verdict u e = unread u e
unread_in (Step cs) bytes text verdict u e = unread u e
unread_in Why bytes text verdict u e = not_read u e

-- one with a form that is refused
pub refused_in : (m : Mode) (bytes text : List ℕ) (verdict : Verdict) (ds : List Sexp) (r : Refusal) → AreData bytes ds → IsFileRefusal ds r
    → text ≡ form_line r → verdict ≡ Refused → WritesIn m bytes text verdict
refused_in Run bytes text verdict ds r a f p e = refused ds r a f p e
refused_in (Step cs) bytes text verdict ds r a f p e = refused ds r a f p e
refused_in Why bytes text verdict ds r a f p e = not_answered ds r a f p e

-- and one that is answered
pub answered_in : (m : Mode) (bytes text : List ℕ) (verdict : Verdict) (ds : List Sexp) (P : Program) (qs : List Query) (met : Bool) → AreData bytes ds
    → IsFile ds P qs → AreAnswersIn m P no_tests qs text met → verdict ≡ verdict_of met → WritesIn m bytes text verdict
answered_in Run bytes text verdict ds P qs met a f w e =
    answered ds met a (record { program = P; queries = qs; accepted = f; answers = w }) e
answered_in (Step cs) bytes text verdict ds P qs met a f w e =
    answered ds met a (record { program = P; queries = qs; accepted = f; answers = w }) e
answered_in Why bytes text verdict ds P qs met a f w e =
    explained ds met a (record { program = P; queries = qs; accepted = f; explained = w }) e

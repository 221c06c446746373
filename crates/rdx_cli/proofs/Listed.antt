-- What is listed of a program is what is written for its file.
use Rattle.std.proofs.Common.{ℕ, List}
use Rattle.rdx_lang.specs.Programs.{Program}
use Rattle.rdx_answer.specs.Queries.{Query}
use Rattle.rdx_query.specs.File.{IsFile}
use Rattle.rdx_sexp.specs.Sexp.{Sexp}
use Rattle.rdx_cli.specs.Inside.Terms.{Lists, has_none, lists}
use Rattle.rdx_cli.specs.Transcript.{AreData, TermsWrites, not_there, are_listed}
use Rattle.rdx_cli.specs.declared.transcript.Verdict.{Verdict}

pub listed_writes : (x : List ℕ) (k : ℕ) (bytes text : List ℕ) (verdict : Verdict) (ds : List Sexp) (P : Program) (qs : List Query) → AreData bytes ds
    → IsFile ds P qs → Lists x k P text verdict → TermsWrites x k bytes text verdict
listed_writes x k bytes text verdict ds P qs a f (has_none n e g) = not_there ds P qs a f n e g
listed_writes x k bytes text verdict ds P qs a f (lists L ts l h t e g) = are_listed ds P qs L ts a f l h t e g

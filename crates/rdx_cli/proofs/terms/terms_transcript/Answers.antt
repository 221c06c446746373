use Rattle.std.proofs.Common.{◌∙◌, List, sym, subst}
use Rattle.std.proofs.lemmas.Result.{IfOk-weaker}
use Rattle.rdx_patterns.specs.Refusal.{refusal_of}
use Rattle.rdx_query.specs.File.{IsFile, IsFileRefusal}
use Rattle.rdx_answer.specs.Views.{program_in, queries_of}
use Rattle.rdx_query.specs.Views.{IsFileFault}
use Rattle.rdx_sexp.specs.Sexp.{Sexp}
use Rattle.rdx_cli.specs.Inside.Contents.{AreContents}
use Rattle.rdx_cli.specs.Inside.Terms.{Lists}
use Rattle.rdx_cli.specs.Transcript.{IsUnread, TermsWrites, not_data, not_accepted}
use Rattle.rdx_cli.specs.declared.transcript.Transcript.{Transcript}
use Rattle.rdx_cli.proofs.Listed.{listed_writes}
use Rattle.rdx_cli.proofs.terms.terms_transcript.Goals as goal

pub returns-in-Unread : goal.returns-in-Unread
returns-in-Unread c =
    let none = subst (AreContents c.args.bytes.now) c.in-Unread.is c.in_ok-data.ensures in
    not_data (subst (IsUnread c.args.bytes.now) (sym c.refused.ensures.text) none) c.refused.ensures.verdict

pub returns-in-Ok : goal.returns-in-Ok
returns-in-Ok c =
    let known = subst (AreContents c.args.bytes.now) c.in-Data.is c.in_ok-data.ensures in
    let P = program_in c.in-Ok.file in
    let qs = queries_of c.in-Ok.file in
    let accepted = subst (λ (ds : List Sexp). IsFile ds P qs) c.deref.ensures.value c.in-Ok.ensures.accepted in
    let x = c.args.nt.now in
    let k = c.args.k in
    let bytes = c.args.bytes.now in
    IfOk-weaker c.listing.result (λ (t : Transcript). Lists x k P t.text.items t.verdict) (λ t. TermsWrites x k bytes t.text.items t.verdict)
    (λ t w. listed_writes x k bytes t.text.items t.verdict c.in-Data.data.items P qs known.0 accepted w) c.listing.ensures

pub returns-in-Err-Refused : goal.returns-in-Err-Refused
returns-in-Err-Refused c =
    let known = subst (AreContents c.args.bytes.now) c.in-Data.is c.in_ok-data.ensures in
    let fault = subst (IsFileFault c.deref.result.now) c.in-Err-Refused.field-0-is c.in-Err-Refused.ensures.refused in
    let refuses = subst (λ (ds : List Sexp). IsFileRefusal ds (refusal_of c.in-Err-Refused.refusal)) c.deref.ensures.value fault in
    not_accepted c.in-Data.data.items (refusal_of c.in-Err-Refused.refusal) known.0 refuses
    (c.refused-in-Err-Refused.ensures.text ∙ c.in_ok-form_line-in-Err-Refused.ensures) c.refused-in-Err-Refused.ensures.verdict

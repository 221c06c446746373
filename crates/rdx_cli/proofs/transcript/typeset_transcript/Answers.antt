use Rattle.std.proofs.Common.{◌∙◌, List, sym, subst, ap}
use Rattle.rdx_patterns.specs.Refusal.{refusal_of}
use Rattle.rdx_query.specs.File.{IsFile, IsFileRefusal}
use Rattle.rdx_answer.specs.Views.{program_in, queries_of}
use Rattle.rdx_query.specs.Views.{IsFileFault}
use Rattle.rdx_sexp.specs.Sexp.{Sexp}
use Rattle.rdx_typeset.specs.Forms.{typeset_text}
use Rattle.rdx_cli.specs.Inside.Contents.{AreContents}
use Rattle.rdx_cli.specs.Transcript.{IsUnread, unset, not_set, is_set}
use Rattle.rdx_cli.proofs.transcript.typeset_transcript.Goals as goal

pub returns-in-Unread : goal.returns-in-Unread
returns-in-Unread c =
    let none = subst (AreContents c.args.bytes.now) c.in-Unread.is c.in_ok-data.ensures in
    unset (subst (IsUnread c.args.bytes.now) (sym c.refused.ensures.text) none) c.refused.ensures.verdict

pub returns-in-Ok : goal.returns-in-Ok
returns-in-Ok c =
    let known = subst (AreContents c.args.bytes.now) c.in-Data.is c.in_ok-data.ensures in
    let P = program_in c.in-Ok.field-0 in
    let qs = queries_of c.in-Ok.field-0 in
    let accepted = subst (λ (ds : List Sexp). IsFile ds P qs) c.deref.ensures.value c.in-Ok.ensures.accepted in
    let set = c.written.ensures.text ∙ c.in_ok-typeset-in-Ok.ensures ∙ ap typeset_text c.deref-in-Ok.ensures.value in
    is_set c.in-Data.data.items P qs known.0 accepted set c.written.ensures.verdict

pub returns-in-Err-Refused : goal.returns-in-Err-Refused
returns-in-Err-Refused c =
    let known = subst (AreContents c.args.bytes.now) c.in-Data.is c.in_ok-data.ensures in
    let fault = subst (IsFileFault c.deref.result.now) c.in-Err-Refused.field-0-is c.in-Err-Refused.ensures.refused in
    let refuses = subst (λ (ds : List Sexp). IsFileRefusal ds (refusal_of c.in-Err-Refused.refusal)) c.deref.ensures.value fault in
    not_set c.in-Data.data.items (refusal_of c.in-Err-Refused.refusal) known.0 refuses
    (c.refused-in-Err-Refused.ensures.text ∙ c.in_ok-form_line-in-Err-Refused.ensures) c.refused-in-Err-Refused.ensures.verdict

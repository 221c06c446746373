use Rattle.std.proofs.Common.{◌∙◌, sym, subst, ap}
use Rattle.rdx_sexp.specs.Print.{canonical_text}
use Rattle.rdx_cli.specs.Inside.Contents.{AreContents}
use Rattle.rdx_cli.specs.Transcript.{IsUnread, unprinted, printed}
use Rattle.rdx_cli.proofs.transcript.format_transcript.Goals as goal

pub returns-in-Unread : goal.returns-in-Unread
returns-in-Unread c =
    let none = subst (AreContents c.args.bytes.now) c.in-Unread.is c.in_ok-data.ensures in
    unprinted (subst (IsUnread c.args.bytes.now) (sym c.refused.ensures.text) none) c.refused.ensures.verdict

pub returns-in_ok-canonical-in-Data : goal.returns-in_ok-canonical-in-Data
returns-in_ok-canonical-in-Data c =
    let known = subst (AreContents c.args.bytes.now) c.in-Data.is c.in_ok-data.ensures in
    let set = c.written.ensures.text ∙ c.in_ok-canonical-in-Data.ensures ∙ ap canonical_text c.deref.ensures.value in
    printed c.in-Data.data.items known.0 set c.written.ensures.verdict

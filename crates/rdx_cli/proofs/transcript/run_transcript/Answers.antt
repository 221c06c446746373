use Rattle.std.proofs.Common.{◌∙◌, List, sym, subst}
use Rattle.rdx_patterns.specs.Refusal.{refusal_of}
use Rattle.rdx_answer.specs.Modes.{AreAnswersIn}
use Rattle.rdx_answer.specs.Tests.{no_tests}
use Rattle.rdx_answer.specs.Views.{program_in, queries_of}
use Rattle.rdx_query.proofs.Explainable.{accepted-explainable}
use Rattle.rdx_query.specs.File.{IsFile, IsFileRefusal}
use Rattle.rdx_query.specs.Views.{IsFileFault}
use Rattle.rdx_sexp.specs.Sexp.{Sexp}
use Rattle.rdx_cli.specs.Inside.Contents.{AreContents}
use Rattle.rdx_cli.specs.Transcript.{IsUnread}
use Rattle.rdx_cli.proofs.Modes.{unread_in, refused_in, answered_in}
use Rattle.rdx_cli.proofs.transcript.run_transcript.Goals as goal

pub returns-in-Unread : goal.returns-in-Unread
returns-in-Unread g c =
    let none = subst (AreContents c.args.bytes.now) c.in-Unread.is c.in_ok-data.ensures in
    unread_in c.args.mode.now c.args.bytes.now _ _ (subst (IsUnread c.args.bytes.now) (sym c.refused.ensures.text) none) c.refused.ensures.verdict

pub answer-requires-clause-asked : goal.answer-requires-clause-asked
answer-requires-clause-asked g c w =
    let known = subst (AreContents c.args.bytes.now) c.in-Data.is c.in_ok-data.ensures in
    let P = program_in c.in-Ok.file in
    let qs = queries_of c.in-Ok.file in
    let accepted = subst (λ (ds : List Sexp). IsFile ds P qs) c.deref.ensures.value c.in-Ok.ensures.accepted in
    accepted-explainable c.in-Data.data.items P qs known.1 accepted

pub returns-in-Ok : goal.returns-in-Ok
returns-in-Ok g c =
    let known = subst (AreContents c.args.bytes.now) c.in-Data.is c.in_ok-data.ensures in
    let P = program_in c.in-Ok.file in
    let qs = queries_of c.in-Ok.file in
    let met = c.in_ok-answer-in-Ok.field-0.met in
    let accepted = subst (λ (ds : List Sexp). IsFile ds P qs) c.deref.ensures.value c.in-Ok.ensures.accepted in
    let answers = subst (λ text. AreAnswersIn c.args.mode.now P no_tests qs text met) (sym c.answered.ensures.text) c.in_ok-answer-in-Ok.ensures in
    answered_in c.args.mode.now c.args.bytes.now _ _ c.in-Data.data.items P qs met known.0 accepted answers c.answered.ensures.verdict

pub returns-in-Err-Refused : goal.returns-in-Err-Refused
returns-in-Err-Refused g c =
    let known = subst (AreContents c.args.bytes.now) c.in-Data.is c.in_ok-data.ensures in
    let fault = subst (IsFileFault c.deref.result.now) c.in-Err-Refused.field-0-is c.in-Err-Refused.ensures.refused in
    let refuses = subst (λ (ds : List Sexp). IsFileRefusal ds (refusal_of c.in-Err-Refused.refusal)) c.deref.ensures.value fault in
    refused_in c.args.mode.now c.args.bytes.now _ _ c.in-Data.data.items (refusal_of c.in-Err-Refused.refusal) known.0 refuses
    (c.refused-in-Err-Refused.ensures.text ∙ c.in_ok-form_line-in-Err-Refused.ensures) c.refused-in-Err-Refused.ensures.verdict

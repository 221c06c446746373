use Rattle.std.proofs.Common.{sym, subst}
use Rattle.std.proofs.lemmas.Result.{IfOk-weaker}
use Rattle.rdx_cli.specs.Inside.Rows.{Writes}
use Rattle.rdx_cli.specs.Transcript.{RunWrites}
use Rattle.rdx_cli.specs.declared.transcript.Transcript.{Transcript}
use Rattle.rdx_cli.proofs.transcript.transcript_of.Goals as goal

pub returns-in_ok-numbers_in-in-Step : goal.returns-in_ok-numbers_in-in-Step
returns-in_ok-numbers_in-in-Step g c =
    let bytes = c.args.bytes.now in
    let choices = c.in_ok-numbers_in-in-Step.field-0.items in
    let known = c.in_ok-numbers_in-in-Step.ensures in
    IfOk-weaker c.run_transcript-in-Step.result
    (λ (t : Transcript). RunWrites choices bytes t.text.items t.verdict)
    (λ t. Writes c.args.row.now bytes t.text.items t.verdict)
    (λ t w. subst (λ row. Writes row bytes t.text.items t.verdict) (sym c.in-Step.is) (record { choices = choices; choices_are = known; written = w }))
    c.run_transcript-in-Step.ensures

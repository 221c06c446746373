use Rattle.std.proofs.Common.{subst}
use Rattle.rdx_base.specs.Putting.{Gains, GainsPrefix}
use Rattle.rdx_cli.specs.Inside.Rows.{Writes}
use Rattle.rdx_cli.specs.Words.{texts}
use Rattle.rdx_cli.proofs.Rows.{transcribes}
use Rattle.rdx_cli.proofs.top.run.Goals as goal

pub returns-then-not-write_text-clause-front : goal.returns-then-not-write_text-clause-front
returns-then-not-write_text-clause-front g c =
    let row = c.in-Some.row in
    let left = g.S.Source.left c.args.source.now in
    let rest = g.S.Source.left c.take_for.new.source in
    let bytes = c.in-Ok.bytes.items in
    let text = c.in-Ok-transcript_of.transcript.text.items in
    let verdict = c.in-Ok-transcript_of.transcript.verdict in
    let before = g.K.Sink.written c.args.sink.now in
    let after = g.K.Sink.written c.write_text.new.sink in
    let writes = subst (λ b. Writes row b text verdict) c.deref.ensures.value c.in-Ok-transcript_of.ensures in
    λ e. record {
      text = text;
      verdict = verdict;
      transcribed = transcribes (texts c.args.words.now) row left rest bytes text verdict c.in-Some.ensures.row c.in-Ok.ensures.taken writes;
      gained = subst (GainsPrefix before after) c.deref-2.ensures.value c.write_text.ensures.prefix;
    }

pub returns-clause-whole : goal.returns-clause-whole
returns-clause-whole g c =
    let row = c.in-Some.row in
    let left = g.S.Source.left c.args.source.now in
    let rest = g.S.Source.left c.take_for.new.source in
    let bytes = c.in-Ok.bytes.items in
    let text = c.in-Ok-transcript_of.transcript.text.items in
    let verdict = c.in-Ok-transcript_of.transcript.verdict in
    let before = g.K.Sink.written c.args.sink.now in
    let after = g.K.Sink.written c.write_text.new.sink in
    let writes = subst (λ b. Writes row b text verdict) c.deref.ensures.value c.in-Ok-transcript_of.ensures in
    λ e. record {
      text = text;
      verdict = verdict;
      transcribed = transcribes (texts c.args.words.now) row left rest bytes text verdict c.in-Some.ensures.row c.in-Ok.ensures.taken writes;
      gained = subst (Gains before after) c.deref-2.ensures.value c.if-not-write_text.ensures.whole;
      status_is = c.status_for.ensures;
    }

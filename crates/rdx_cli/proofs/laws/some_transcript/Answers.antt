use Rattle.rdx_cli.proofs.SomeText.{some_transcript}
use Rattle.rdx_cli.proofs.laws.some_transcript.Goals as goal

pub returns : goal.returns
returns c row bytes = some_transcript c.never_neither.ensures c.never_neither-2.ensures c.some_text_or_refusal.ensures c.each_text_is_explained.ensures
    c.accepted_is_valid.ensures.free c.some_terms.ensures row bytes

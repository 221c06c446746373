use Rattle.rdx_cli.proofs.OneText.{one_transcript}
use Rattle.rdx_cli.proofs.laws.one_transcript.Goals as goal

pub returns : goal.returns
returns c row bytes text other verdict last o t u =
    one_transcript c.one_reading.ensures c.one_fault.ensures c.data_or_fault.ensures c.one_text.ensures c.one_refusal.ensures c.never_both_text_and_refusal.ensures
    c.never_both_accepted_and_refused.ensures c.one_meaning.ensures c.one_terms.ensures row bytes text other verdict last o t u

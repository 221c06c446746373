use Rattle.rdx_forms.specs.Before.{known_before}
use Rattle.rdx_query.proofs.OneReading.{accepts-refuses}
use Rattle.rdx_query.proofs.laws.never_both_text_and_refusal.Goals as goal

pub returns : goal.returns
returns c ds cs text met r w f = accepts-refuses (known_before ds) ds (record (known_before ds) { program = w.program }) w.queries r w.accepted f

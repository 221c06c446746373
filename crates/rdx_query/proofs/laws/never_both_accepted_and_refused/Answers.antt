use Rattle.rdx_forms.specs.Before.{known_before}
use Rattle.rdx_query.proofs.OneReading.{accepts-refuses}
use Rattle.rdx_query.proofs.laws.never_both_accepted_and_refused.Goals as goal

pub returns : goal.returns
returns c ds P qs r a f = accepts-refuses (known_before ds) ds (record (known_before ds) { program = P }) qs r a f

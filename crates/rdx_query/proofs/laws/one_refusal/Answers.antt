use Rattle.rdx_forms.specs.Before.{known_before}
use Rattle.rdx_query.proofs.OneReading.{refuses-one}
use Rattle.rdx_query.proofs.laws.one_refusal.Goals as goal

pub returns : goal.returns
returns c ds r q = refuses-one (known_before ds) ds r q

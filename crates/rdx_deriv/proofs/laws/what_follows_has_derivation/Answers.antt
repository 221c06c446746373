use Rattle.rdx_deriv.proofs.Complete as complete
use Rattle.rdx_deriv.proofs.laws.what_follows_has_derivation.Goals as goal

pub returns : goal.returns
returns c = complete.what_follows_has_derivation

use Rattle.rdx_deriv.proofs.Sound as sound
use Rattle.rdx_deriv.proofs.laws.what_holds_follows.Goals as goal

pub returns : goal.returns
returns c = sound.what_holds_follows

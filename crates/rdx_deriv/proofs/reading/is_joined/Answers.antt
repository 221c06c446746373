use Rattle.rdx_deriv.proofs.Readings.{join_found}
use Rattle.rdx_deriv.proofs.reading.is_joined.Goals as goal

pub returns : goal.returns
returns c = join_found _ _ _ _ _ c.in_ok-joined.ensures.some c.in_ok-joined.ensures.none c.is_found.ensures

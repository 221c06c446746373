use Rattle.rdx_patterns.proofs.Wilds.{wilds_are_written}
use Rattle.rdx_patterns.proofs.laws.wilds_are_written.Goals as goal

pub returns : goal.returns
returns c = wilds_are_written

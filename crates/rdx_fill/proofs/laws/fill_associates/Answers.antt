use Rattle.rdx_term.proofs.Associates.{fill_of-fill_of}
use Rattle.rdx_fill.proofs.laws.fill_associates.Goals as goal

pub returns : goal.returns
returns c = fill_of-fill_of

use Rattle.rdx_gen.proofs.Reaching as reaching
use Rattle.rdx_gen.proofs.laws.reached_exactly.Goals as goal

pub returns-clause-exactly : goal.returns-clause-exactly
returns-clause-exactly c = reaching.reached_exactly

pub returns-clause-none_breaks : goal.returns-clause-none_breaks
returns-clause-none_breaks c = reaching.none_breaks

use Rattle.rdx_term.proofs.Marks.{IsTerm-fill_of, bare-fill_of}
use Rattle.rdx_fill.proofs.laws.filled_terms.Goals as goal

pub returns-clause-term : goal.returns-clause-term
returns-clause-term c = IsTerm-fill_of

pub returns-clause-bare : goal.returns-clause-bare
returns-clause-bare c = bare-fill_of

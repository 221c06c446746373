use Rattle.rdx_patterns.proofs.Examples.{asks_inside, reads_across, no_such_end}
use Rattle.rdx_patterns.proofs.laws.worked_examples.Goals as goal

pub returns-clause-asks_inside : goal.returns-clause-asks_inside
returns-clause-asks_inside c = asks_inside

pub returns-clause-reads_across : goal.returns-clause-reads_across
returns-clause-reads_across c = reads_across

pub returns-clause-no_such_end : goal.returns-clause-no_such_end
returns-clause-no_such_end c = no_such_end

use Rattle.rdx_reduce.proofs.FirstFaults.{answers_first}
use Rattle.rdx_reduce.proofs.TakenSteps.{lists_taken, stays_in_domain}
use Rattle.rdx_reduce.proofs.laws.taken_steps.Goals as goal

pub returns-clause-lists : goal.returns-clause-lists
returns-clause-lists c = lists_taken

pub returns-clause-stays : goal.returns-clause-stays
returns-clause-stays c = stays_in_domain

pub returns-clause-fault : goal.returns-clause-fault
returns-clause-fault c = answers_first

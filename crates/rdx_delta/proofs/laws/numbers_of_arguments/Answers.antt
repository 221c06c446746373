use Rattle.rdx_delta.proofs.ArgumentNumbers.{wrong_number, taken_number}
use Rattle.rdx_delta.proofs.laws.numbers_of_arguments.Goals as goal

pub returns-clause-wrong : goal.returns-clause-wrong
returns-clause-wrong c = wrong_number

pub returns-clause-taken : goal.returns-clause-taken
returns-clause-taken c = taken_number

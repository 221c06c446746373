use Rattle.rdx_gen.proofs.SomeAnswer as some
use Rattle.rdx_gen.proofs.laws.some_answer.Goals as goal

pub returns-clause-some_answer : goal.returns-clause-some_answer
returns-clause-some_answer c = some.some_answer

pub returns-clause-enough_levels : goal.returns-clause-enough_levels
returns-clause-enough_levels c = some.enough_levels

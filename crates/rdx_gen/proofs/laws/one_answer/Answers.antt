use Rattle.rdx_gen.proofs.OneAnswer as one
use Rattle.rdx_gen.proofs.laws.one_answer.Goals as goal

pub returns : goal.returns
returns c = record { one_answer = one.one_answer }

use Rattle.rdx_deriv.proofs.JudgedOutputs as outputs
use Rattle.rdx_deriv.proofs.laws.outputs_are_judged.Goals as goal

pub returns : goal.returns
returns c = outputs.outputs_are_judged

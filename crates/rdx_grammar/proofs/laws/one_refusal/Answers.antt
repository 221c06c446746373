use Rattle.rdx_grammar.proofs.OneReading.{one_refusal}
use Rattle.rdx_grammar.proofs.laws.one_refusal.Goals as goal

pub returns : goal.returns
returns c = one_refusal

use Rattle.rdx_grammar.proofs.OneReading.{one_language}
use Rattle.rdx_grammar.proofs.laws.one_language.Goals as goal

pub returns : goal.returns
returns c = one_language

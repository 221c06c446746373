use Rattle.rdx_grammar.proofs.OneReading.{never_both_language}
use Rattle.rdx_grammar.proofs.laws.never_both_language_and_refusal.Goals as goal

pub returns : goal.returns
returns c = never_both_language

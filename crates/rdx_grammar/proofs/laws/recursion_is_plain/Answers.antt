use Rattle.rdx_grammar.proofs.PlainForms.{recursion_is_plain}
use Rattle.rdx_grammar.proofs.laws.recursion_is_plain.Goals as goal

pub returns : goal.returns
returns c = recursion_is_plain

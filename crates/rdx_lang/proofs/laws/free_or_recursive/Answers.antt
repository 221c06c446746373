use Rattle.rdx_lang.proofs.Recursion as decided
use Rattle.rdx_lang.proofs.laws.free_or_recursive.Goals as goal

pub returns : goal.returns
returns c L = decided.free_or_recursive L

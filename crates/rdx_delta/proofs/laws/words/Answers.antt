use Rattle.rdx_delta.proofs.HostWords.{one_word}
use Rattle.rdx_delta.proofs.laws.words.Goals as goal

pub returns : goal.returns
returns c = one_word

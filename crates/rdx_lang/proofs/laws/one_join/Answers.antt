use Rattle.rdx_lang.proofs.JoinLaws.{one_join}
use Rattle.rdx_lang.proofs.laws.one_join.Goals as goal

pub returns : goal.returns
returns c a b d e j k = one_join a b d e j k

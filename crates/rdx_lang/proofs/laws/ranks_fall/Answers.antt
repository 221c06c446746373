use Rattle.rdx_lang.proofs.RankLaws.{ranks_fall, edges_fall, ranked_is_free}
use Rattle.rdx_lang.proofs.laws.ranks_fall.Goals as goal

pub returns-clause-fall : goal.returns-clause-fall
returns-clause-fall c = ranks_fall

pub returns-clause-edges : goal.returns-clause-edges
returns-clause-edges c = edges_fall

pub returns-clause-free : goal.returns-clause-free
returns-clause-free c = ranked_is_free

use Rattle.rdx_answer.proofs.ExplainedRuns.{explained-answers}
use Rattle.rdx_answer.proofs.laws.what_is_explained_is_answered.Goals as goal

pub returns : goal.returns
returns c = explained-answers

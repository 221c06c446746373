use Rattle.rdx_eval.specs.Heights.{calls_at}
use Rattle.rdx_eval.proofs.OneAnswer.{once-call, once-outputs}
use Rattle.rdx_eval.proofs.SomeAnswer.{some-call, some-outputs}
use Rattle.rdx_reduce.proofs.OneAnswer.{once-steps}
use Rattle.rdx_reduce.proofs.SomeAnswer.{some-steps}
use Rattle.rdx_reduce.proofs.laws.one_stepping.Goals as goal

pub returns-clause-one : goal.returns-clause-one
returns-clause-one c L P n R t = once-steps L (calls_at P n) (once-call P n) R (once-outputs P n) t

pub returns-clause-some : goal.returns-clause-some
returns-clause-some c L P n R t free all = some-steps L free (calls_at P n) (some-call P all n) (some-outputs P all n) R t

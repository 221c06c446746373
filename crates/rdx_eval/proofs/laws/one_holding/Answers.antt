use Rattle.rdx_eval.proofs.OneAnswer.{once-holds}
use Rattle.rdx_eval.proofs.SomeAnswer.{some-holds}
use Rattle.rdx_eval.proofs.laws.one_holding.Goals as goal

pub returns-clause-one : goal.returns-clause-one
returns-clause-one c P n j a = once-holds P n j a

pub returns-clause-some : goal.returns-clause-some
returns-clause-some c P n j a free = some-holds P free n j a

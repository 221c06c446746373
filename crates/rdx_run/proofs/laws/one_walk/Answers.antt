use Rattle.rdx_reduce.specs.Relations.{AreSteps}
use Rattle.rdx_run.proofs.OneEnd.{steps-once, one-walk, one-run}
use Rattle.rdx_run.proofs.laws.one_walk.Goals as goal

pub returns-clause-walk : goal.returns-clause-walk
returns-clause-walk c = λ P R t cs w v h k. one-walk (AreSteps P R) (steps-once c.one_stepping.ensures.one P R) h k

pub returns-clause-run : goal.returns-clause-run
returns-clause-run c = λ P R n t e f h k. one-run (AreSteps P R) (steps-once c.one_stepping.ensures.one P R) h k

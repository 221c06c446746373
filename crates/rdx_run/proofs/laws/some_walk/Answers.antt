use Rattle.std.proofs.Common.{refl}
use Rattle.rdx_lang.specs.Programs.{language_named}
use Rattle.rdx_reduce.specs.Relations.{AreSteps}
use Rattle.rdx_run.proofs.SomeEnd.{steps-some, some-walk, some-run}
use Rattle.rdx_run.proofs.laws.some_walk.Goals as goal

pub returns-clause-walk : goal.returns-clause-walk
returns-clause-walk c = λ P R f n t cs. some-walk (AreSteps P R) (steps-some c.one_stepping.ensures.some P R f (language_named P R.language) refl n) cs t

pub returns-clause-run : goal.returns-clause-run
returns-clause-run c = λ P R f n k t. some-run (AreSteps P R) (steps-some c.one_stepping.ensures.some P R f (language_named P R.language) refl n) k t

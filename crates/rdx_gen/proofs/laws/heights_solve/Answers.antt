use Rattle.rdx_gen.proofs.HeightLaws as laws
use Rattle.rdx_gen.proofs.laws.heights_solve.Goals as goal

pub returns-clause-solve : goal.returns-clause-solve
returns-clause-solve c = laws.heights_solve

pub returns-clause-one_solution : goal.returns-clause-one_solution
returns-clause-one_solution c = laws.one_solution

pub returns-clause-bounded : goal.returns-clause-bounded
returns-clause-bounded c = laws.heights_bounded

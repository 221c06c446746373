use Rattle.rdx_reduce.proofs.ClosedValid.{closure_is_valid, compatible_is_valid}
use Rattle.rdx_reduce.proofs.FreeContexts.{few_leave_names, closures_bind_one_more}
use Rattle.rdx_reduce.proofs.laws.closures_stay_valid.Goals as goal

pub returns-clause-valid : goal.returns-clause-valid
returns-clause-valid c = closure_is_valid

pub returns-clause-compatible : goal.returns-clause-compatible
returns-clause-compatible c = compatible_is_valid

pub returns-clause-few : goal.returns-clause-few
returns-clause-few c = few_leave_names

pub returns-clause-more : goal.returns-clause-more
returns-clause-more c = closures_bind_one_more

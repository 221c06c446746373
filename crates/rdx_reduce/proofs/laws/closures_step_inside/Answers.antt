use Rattle.rdx_reduce.proofs.ClosureLaws.{matches_in_context, context_is_joined, steps_in_context, keeps_own_steps, closure_lists, faults_in_context, keeps_own_faults, closure_faults}
use Rattle.rdx_reduce.proofs.laws.closures_step_inside.Goals as goal

pub returns-clause-matches : goal.returns-clause-matches
returns-clause-matches c = matches_in_context

pub returns-clause-joined : goal.returns-clause-joined
returns-clause-joined c = context_is_joined

pub returns-clause-steps : goal.returns-clause-steps
returns-clause-steps c = steps_in_context

pub returns-clause-own : goal.returns-clause-own
returns-clause-own c = keeps_own_steps

pub returns-clause-lists : goal.returns-clause-lists
returns-clause-lists c = closure_lists

pub returns-clause-faults : goal.returns-clause-faults
returns-clause-faults c = faults_in_context

pub returns-clause-own_faults : goal.returns-clause-own_faults
returns-clause-own_faults c = keeps_own_faults

pub returns-clause-first : goal.returns-clause-first
returns-clause-first c = closure_faults

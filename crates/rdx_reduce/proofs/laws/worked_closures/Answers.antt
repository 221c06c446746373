use Rattle.rdx_reduce.proofs.ClosureExamples.{name_stays, name_is_taken, closure_of_closure, steps_inside, no_step_at_top, fresh_avoids_context, steps_in_each_place, fault_inside, first_place_fails}
use Rattle.rdx_reduce.proofs.laws.worked_closures.Goals as goal

pub returns-clause-name_stays : goal.returns-clause-name_stays
returns-clause-name_stays c = name_stays

pub returns-clause-name_is_taken : goal.returns-clause-name_is_taken
returns-clause-name_is_taken c = name_is_taken

pub returns-clause-closure_of_closure : goal.returns-clause-closure_of_closure
returns-clause-closure_of_closure c = closure_of_closure

pub returns-clause-steps_inside : goal.returns-clause-steps_inside
returns-clause-steps_inside c = steps_inside

pub returns-clause-no_step_at_top : goal.returns-clause-no_step_at_top
returns-clause-no_step_at_top c = no_step_at_top

pub returns-clause-fresh_avoids_context : goal.returns-clause-fresh_avoids_context
returns-clause-fresh_avoids_context c = fresh_avoids_context

pub returns-clause-steps_in_each_place : goal.returns-clause-steps_in_each_place
returns-clause-steps_in_each_place c = steps_in_each_place

pub returns-clause-fault_inside : goal.returns-clause-fault_inside
returns-clause-fault_inside c = fault_inside

pub returns-clause-first_place_fails : goal.returns-clause-first_place_fails
returns-clause-first_place_fails c = first_place_fails

use Rattle.rdx_reduce.proofs.Examples.{one_step, step_by_each, once_for_two, fault_alone, rules_in_order, marks_count, first_fault, condition_holds, condition_fails, where_fails, term_outside, reduct_outside, both_inside}
use Rattle.rdx_reduce.proofs.laws.worked_examples.Goals as goal

pub returns-clause-one_step : goal.returns-clause-one_step
returns-clause-one_step c = one_step

pub returns-clause-step_by_each : goal.returns-clause-step_by_each
returns-clause-step_by_each c = step_by_each

pub returns-clause-once_for_two : goal.returns-clause-once_for_two
returns-clause-once_for_two c = once_for_two

pub returns-clause-fault_alone : goal.returns-clause-fault_alone
returns-clause-fault_alone c = fault_alone

pub returns-clause-rules_in_order : goal.returns-clause-rules_in_order
returns-clause-rules_in_order c = rules_in_order

pub returns-clause-marks_count : goal.returns-clause-marks_count
returns-clause-marks_count c = marks_count

pub returns-clause-first_fault : goal.returns-clause-first_fault
returns-clause-first_fault c = first_fault

pub returns-clause-condition_holds : goal.returns-clause-condition_holds
returns-clause-condition_holds c = condition_holds

pub returns-clause-condition_fails : goal.returns-clause-condition_fails
returns-clause-condition_fails c = condition_fails

pub returns-clause-where_fails : goal.returns-clause-where_fails
returns-clause-where_fails c = where_fails

pub returns-clause-term_outside : goal.returns-clause-term_outside
returns-clause-term_outside c = term_outside

pub returns-clause-reduct_outside : goal.returns-clause-reduct_outside
returns-clause-reduct_outside c = reduct_outside

pub returns-clause-both_inside : goal.returns-clause-both_inside
returns-clause-both_inside c = both_inside

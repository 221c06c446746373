use Rattle.rdx_query.proofs.Examples.{answers_in_order, whole_answer, inherited, one_split, filled_term, fault_answered, one_reduct_two_steps, premise_met, outputs_listed, first_refused_form, earlier_languages_only, taken_name, host_expression, other_form, sum, wanted, other_module, known_before, few_items, left_recursion}
use Rattle.rdx_query.proofs.laws.worked_examples.Goals as goal

pub returns-clause-answers_in_order : goal.returns-clause-answers_in_order
returns-clause-answers_in_order c = answers_in_order

pub returns-clause-whole_answer : goal.returns-clause-whole_answer
returns-clause-whole_answer c = whole_answer

pub returns-clause-inherited : goal.returns-clause-inherited
returns-clause-inherited c = inherited

pub returns-clause-one_split : goal.returns-clause-one_split
returns-clause-one_split c = one_split

pub returns-clause-premise_met : goal.returns-clause-premise_met
returns-clause-premise_met c = premise_met

pub returns-clause-outputs_listed : goal.returns-clause-outputs_listed
returns-clause-outputs_listed c = outputs_listed

pub returns-clause-first_refused_form : goal.returns-clause-first_refused_form
returns-clause-first_refused_form c = first_refused_form

pub returns-clause-earlier_languages_only : goal.returns-clause-earlier_languages_only
returns-clause-earlier_languages_only c = earlier_languages_only

pub returns-clause-taken_name : goal.returns-clause-taken_name
returns-clause-taken_name c = taken_name

pub returns-clause-host_expression : goal.returns-clause-host_expression
returns-clause-host_expression c = host_expression

pub returns-clause-filled_term : goal.returns-clause-filled_term
returns-clause-filled_term c = filled_term

pub returns-clause-few_items : goal.returns-clause-few_items
returns-clause-few_items c = few_items

pub returns-clause-left_recursion : goal.returns-clause-left_recursion
returns-clause-left_recursion c = left_recursion

pub returns-clause-fault_answered : goal.returns-clause-fault_answered
returns-clause-fault_answered c = fault_answered

pub returns-clause-one_reduct_two_steps : goal.returns-clause-one_reduct_two_steps
returns-clause-one_reduct_two_steps c = one_reduct_two_steps

pub returns-clause-other_form : goal.returns-clause-other_form
returns-clause-other_form c = other_form

pub returns-clause-sum : goal.returns-clause-sum
returns-clause-sum c = sum

pub returns-clause-wanted : goal.returns-clause-wanted
returns-clause-wanted c = wanted

pub returns-clause-other_module : goal.returns-clause-other_module
returns-clause-other_module c = other_module

pub returns-clause-known_before : goal.returns-clause-known_before
returns-clause-known_before c = known_before

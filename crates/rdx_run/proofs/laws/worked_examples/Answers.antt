use Rattle.rdx_run.proofs.Examples.{no_choice, second_then_first, zero_is_none, beyond_the_steps, no_step_left, stops_at_once, stops_behind_one, rests_in_the_last, one_too_few, goes_on_for_ever, two_reducts, branches_behind_one, marks_count, two_to_one, fails_at_once, fails_behind_one, not_looked_at}
use Rattle.rdx_run.proofs.laws.worked_examples.Goals as goal

pub returns-clause-no_choice : goal.returns-clause-no_choice
returns-clause-no_choice c = no_choice

pub returns-clause-second_then_first : goal.returns-clause-second_then_first
returns-clause-second_then_first c = second_then_first

pub returns-clause-zero_is_none : goal.returns-clause-zero_is_none
returns-clause-zero_is_none c = zero_is_none

pub returns-clause-beyond_the_steps : goal.returns-clause-beyond_the_steps
returns-clause-beyond_the_steps c = beyond_the_steps

pub returns-clause-no_step_left : goal.returns-clause-no_step_left
returns-clause-no_step_left c = no_step_left

pub returns-clause-stops_at_once : goal.returns-clause-stops_at_once
returns-clause-stops_at_once c = stops_at_once

pub returns-clause-stops_behind_one : goal.returns-clause-stops_behind_one
returns-clause-stops_behind_one c = stops_behind_one

pub returns-clause-rests_in_the_last : goal.returns-clause-rests_in_the_last
returns-clause-rests_in_the_last c = rests_in_the_last

pub returns-clause-one_too_few : goal.returns-clause-one_too_few
returns-clause-one_too_few c = one_too_few

pub returns-clause-goes_on_for_ever : goal.returns-clause-goes_on_for_ever
returns-clause-goes_on_for_ever c = goes_on_for_ever

pub returns-clause-two_reducts : goal.returns-clause-two_reducts
returns-clause-two_reducts c = two_reducts

pub returns-clause-branches_behind_one : goal.returns-clause-branches_behind_one
returns-clause-branches_behind_one c = branches_behind_one

pub returns-clause-marks_count : goal.returns-clause-marks_count
returns-clause-marks_count c = marks_count

pub returns-clause-two_to_one : goal.returns-clause-two_to_one
returns-clause-two_to_one c = two_to_one

pub returns-clause-fails_at_once : goal.returns-clause-fails_at_once
returns-clause-fails_at_once c = fails_at_once

pub returns-clause-fails_behind_one : goal.returns-clause-fails_behind_one
returns-clause-fails_behind_one c = fails_behind_one

pub returns-clause-not_looked_at : goal.returns-clause-not_looked_at
returns-clause-not_looked_at c = not_looked_at

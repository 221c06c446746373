use Rattle.rdx_deriv.proofs.Examples.{one_is_judged, one_is_derived, nothing_else, no_other_rule, inputs_are_matched, wrapped_is_judged, wrapped_is_derived, wrapped_is_spent}
use Rattle.rdx_deriv.proofs.laws.worked_examples.Goals as goal

pub returns-clause-one_is_judged : goal.returns-clause-one_is_judged
returns-clause-one_is_judged c = one_is_judged

pub returns-clause-one_is_derived : goal.returns-clause-one_is_derived
returns-clause-one_is_derived c = one_is_derived

pub returns-clause-nothing_else : goal.returns-clause-nothing_else
returns-clause-nothing_else c = nothing_else

pub returns-clause-no_other_rule : goal.returns-clause-no_other_rule
returns-clause-no_other_rule c = no_other_rule

pub returns-clause-inputs_are_matched : goal.returns-clause-inputs_are_matched
returns-clause-inputs_are_matched c = inputs_are_matched

pub returns-clause-wrapped_is_judged : goal.returns-clause-wrapped_is_judged
returns-clause-wrapped_is_judged c = wrapped_is_judged

pub returns-clause-wrapped_is_derived : goal.returns-clause-wrapped_is_derived
returns-clause-wrapped_is_derived c = wrapped_is_derived

pub returns-clause-wrapped_is_spent : goal.returns-clause-wrapped_is_spent
returns-clause-wrapped_is_spent c = wrapped_is_spent

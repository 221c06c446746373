use Rattle.rdx_answer.proofs.Examples.{values_written, failed_test, marks_forgotten, counts_set_back, fault_in_test, first_fault}
use Rattle.rdx_answer.proofs.PrintedExamples.{own_hole, one_hole, no_own_hole, nested_sequences, own_hole_in_sequence, length_in_decimal}
use Rattle.rdx_answer.proofs.laws.worked_examples.Goals as goal

pub returns-clause-own_hole : goal.returns-clause-own_hole
returns-clause-own_hole c = own_hole

pub returns-clause-one_hole : goal.returns-clause-one_hole
returns-clause-one_hole c = one_hole

pub returns-clause-no_own_hole : goal.returns-clause-no_own_hole
returns-clause-no_own_hole c = no_own_hole

pub returns-clause-nested_sequences : goal.returns-clause-nested_sequences
returns-clause-nested_sequences c = nested_sequences

pub returns-clause-own_hole_in_sequence : goal.returns-clause-own_hole_in_sequence
returns-clause-own_hole_in_sequence c = own_hole_in_sequence

pub returns-clause-length_in_decimal : goal.returns-clause-length_in_decimal
returns-clause-length_in_decimal c = length_in_decimal

pub returns-clause-values_written : goal.returns-clause-values_written
returns-clause-values_written c = values_written

pub returns-clause-failed_test : goal.returns-clause-failed_test
returns-clause-failed_test c = failed_test

pub returns-clause-marks_forgotten : goal.returns-clause-marks_forgotten
returns-clause-marks_forgotten c = marks_forgotten

pub returns-clause-counts_set_back : goal.returns-clause-counts_set_back
returns-clause-counts_set_back c = counts_set_back

pub returns-clause-fault_in_test : goal.returns-clause-fault_in_test
returns-clause-fault_in_test c = fault_in_test

pub returns-clause-first_fault : goal.returns-clause-first_fault
returns-clause-first_fault c = first_fault

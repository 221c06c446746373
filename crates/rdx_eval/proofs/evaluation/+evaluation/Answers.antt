-- The answers of evaluation, by their subjects.
use Rattle.rdx_eval.proofs.evaluation.+evaluation.Answers.Templates as templates
use Rattle.rdx_eval.proofs.evaluation.+evaluation.Answers.Calls as calls
use Rattle.rdx_eval.proofs.evaluation.+evaluation.Answers.Extras as extras
use Rattle.rdx_eval.proofs.evaluation.+evaluation.Answers.Making as making
use Rattle.rdx_eval.proofs.evaluation.+evaluation.Goals as goal
mod Templates
mod Making
mod Calls
mod Extras

pub calls::value-returns-then-height-eq0-clause-answer : goal.calls::value-returns-then-height-eq0-clause-answer
calls::value-returns-then-height-eq0-clause-answer = calls.value-returns-then-height-eq0-clause-answer

pub calls::value-returns-in_default-clause-answer : goal.calls::value-returns-in_default-clause-answer
calls::value-returns-in_default-clause-answer = calls.value-returns-in_default-clause-answer

pub calls::value-returns-in_default-language_named-clause-answer : goal.calls::value-returns-in_default-language_named-clause-answer
calls::value-returns-in_default-language_named-clause-answer = calls.value-returns-in_default-language_named-clause-answer

pub calls::value-returns-in_err-ask-clause-answer : goal.calls::value-returns-in_err-ask-clause-answer
calls::value-returns-in_err-ask-clause-answer = calls.value-returns-in_err-ask-clause-answer

pub calls::value-returns-in_err-t-clause-answer : goal.calls::value-returns-in_err-t-clause-answer
calls::value-returns-in_err-t-clause-answer = calls.value-returns-in_err-t-clause-answer

pub calls::value-returns-in_err-ask-2-clause-answer : goal.calls::value-returns-in_err-ask-2-clause-answer
calls::value-returns-in_err-ask-2-clause-answer = calls.value-returns-in_err-ask-2-clause-answer

pub calls::value-returns-clause-answer : goal.calls::value-returns-clause-answer
calls::value-returns-clause-answer = calls.value-returns-clause-answer

pub calls::by_clauses-returns-in_err-bs-clause-answer : goal.calls::by_clauses-returns-in_err-bs-clause-answer
calls::by_clauses-returns-in_err-bs-clause-answer = calls.by_clauses-returns-in_err-bs-clause-answer

pub calls::by_clauses-returns-then-not-is_empty-clause-answer : goal.calls::by_clauses-returns-then-not-is_empty-clause-answer
calls::by_clauses-returns-then-not-is_empty-clause-answer = calls.by_clauses-returns-then-not-is_empty-clause-answer

pub calls::by_clauses-loop-clause-preserved : goal.calls::by_clauses-loop-clause-preserved
calls::by_clauses-loop-clause-preserved = calls.by_clauses-loop-clause-preserved

pub calls::result_of-returns-in_err-t-clause-answer : goal.calls::result_of-returns-in_err-t-clause-answer
calls::result_of-returns-in_err-t-clause-answer = calls.result_of-returns-in_err-t-clause-answer

pub calls::result_of-loop-b-preserved : goal.calls::result_of-loop-b-preserved
calls::result_of-loop-b-preserved = calls.result_of-loop-b-preserved

pub calls::result_of-one_of-requires : goal.calls::result_of-one_of-requires
calls::result_of-one_of-requires = calls.result_of-one_of-requires

pub calls::result_of-returns-clause-answer : goal.calls::result_of-returns-clause-answer
calls::result_of-returns-clause-answer = calls.result_of-returns-clause-answer

pub calls::outputs-returns-then-height-eq0-clause-answer : goal.calls::outputs-returns-then-height-eq0-clause-answer
calls::outputs-returns-then-height-eq0-clause-answer = calls.outputs-returns-then-height-eq0-clause-answer

pub calls::outputs-returns-in_default-clause-answer : goal.calls::outputs-returns-in_default-clause-answer
calls::outputs-returns-in_default-clause-answer = calls.outputs-returns-in_default-clause-answer

pub calls::outputs-returns-in_default-language_named-clause-answer : goal.calls::outputs-returns-in_default-language_named-clause-answer
calls::outputs-returns-in_default-language_named-clause-answer = calls.outputs-returns-in_default-language_named-clause-answer

pub calls::outputs-returns-in_err-ask-clause-answer : goal.calls::outputs-returns-in_err-ask-clause-answer
calls::outputs-returns-in_err-ask-clause-answer = calls.outputs-returns-in_err-ask-clause-answer

pub calls::outputs-returns-clause-answer : goal.calls::outputs-returns-clause-answer
calls::outputs-returns-clause-answer = calls.outputs-returns-clause-answer

pub calls::by_rules-returns-in_err-bs-clause-answer : goal.calls::by_rules-returns-in_err-bs-clause-answer
calls::by_rules-returns-in_err-bs-clause-answer = calls.by_rules-returns-in_err-bs-clause-answer

pub calls::by_rules-returns-in_err-more-clause-answer : goal.calls::by_rules-returns-in_err-more-clause-answer
calls::by_rules-returns-in_err-more-clause-answer = calls.by_rules-returns-in_err-more-clause-answer

pub calls::by_rules-loop-rule-preserved : goal.calls::by_rules-loop-rule-preserved
calls::by_rules-loop-rule-preserved = calls.by_rules-loop-rule-preserved

pub calls::by_rules-returns-clause-answer : goal.calls::by_rules-returns-clause-answer
calls::by_rules-returns-clause-answer = calls.by_rules-returns-clause-answer

pub calls::output_lists-returns-in_err-t-clause-answer : goal.calls::output_lists-returns-in_err-t-clause-answer
calls::output_lists-returns-in_err-t-clause-answer = calls.output_lists-returns-in_err-t-clause-answer

pub calls::output_lists-returns-in_err-ask-clause-answer : goal.calls::output_lists-returns-in_err-ask-clause-answer
calls::output_lists-returns-in_err-ask-clause-answer = calls.output_lists-returns-in_err-ask-clause-answer

pub calls::output_lists-loop-binding-preserved : goal.calls::output_lists-loop-binding-preserved
calls::output_lists-loop-binding-preserved = calls.output_lists-loop-binding-preserved

pub calls::output_lists-returns-clause-answer : goal.calls::output_lists-returns-clause-answer
calls::output_lists-returns-clause-answer = calls.output_lists-returns-clause-answer

pub extras::survivors-returns-clause-answer : goal.extras::survivors-returns-clause-answer
extras::survivors-returns-clause-answer = extras.survivors-returns-clause-answer

pub extras::extend-returns-in_err-bs-clause-answer : goal.extras::extend-returns-in_err-bs-clause-answer
extras::extend-returns-in_err-bs-clause-answer = extras.extend-returns-in_err-bs-clause-answer

pub extras::extend-loop-i-preserved : goal.extras::extend-loop-i-preserved
extras::extend-loop-i-preserved = extras.extend-loop-i-preserved

pub extras::by_each-returns-in_err-found-in-Where-clause-answer : goal.extras::by_each-returns-in_err-found-in-Where-clause-answer
extras::by_each-returns-in_err-found-in-Where-clause-answer = extras.by_each-returns-in_err-found-in-Where-clause-answer

pub extras::by_each-returns-in_err-found-in-Side-clause-answer : goal.extras::by_each-returns-in_err-found-in-Side-clause-answer
extras::by_each-returns-in_err-found-in-Side-clause-answer = extras.by_each-returns-in_err-found-in-Side-clause-answer

pub extras::by_each-returns-in_err-found-in-Holds-clause-answer : goal.extras::by_each-returns-in_err-found-in-Holds-clause-answer
extras::by_each-returns-in_err-found-in-Holds-clause-answer = extras.by_each-returns-in_err-found-in-Holds-clause-answer

pub extras::by_each-returns-clause-answer : goal.extras::by_each-returns-clause-answer
extras::by_each-returns-clause-answer = extras.by_each-returns-clause-answer

pub extras::where_each-returns-in_err-t-clause-answer : goal.extras::where_each-returns-in_err-t-clause-answer
extras::where_each-returns-in_err-t-clause-answer = extras.where_each-returns-in_err-t-clause-answer

pub extras::where_each-loop-binding-preserved : goal.extras::where_each-loop-binding-preserved
extras::where_each-loop-binding-preserved = extras.where_each-loop-binding-preserved

pub extras::where_each-returns-clause-answer : goal.extras::where_each-returns-clause-answer
extras::where_each-returns-clause-answer = extras.where_each-returns-clause-answer

pub extras::side_each-returns-in_err-t-clause-answer : goal.extras::side_each-returns-in_err-t-clause-answer
extras::side_each-returns-in_err-t-clause-answer = extras.side_each-returns-in_err-t-clause-answer

pub extras::side_each-loop-binding-preserved : goal.extras::side_each-loop-binding-preserved
extras::side_each-loop-binding-preserved = extras.side_each-loop-binding-preserved

pub extras::side_each-returns-clause-answer : goal.extras::side_each-returns-clause-answer
extras::side_each-returns-clause-answer = extras.side_each-returns-clause-answer

pub extras::premise_each-returns-in_err-more-clause-answer : goal.extras::premise_each-returns-in_err-more-clause-answer
extras::premise_each-returns-in_err-more-clause-answer = extras.premise_each-returns-in_err-more-clause-answer

pub extras::premise_each-loop-b-preserved : goal.extras::premise_each-loop-b-preserved
extras::premise_each-loop-b-preserved = extras.premise_each-loop-b-preserved

pub extras::premise_each-returns-clause-answer : goal.extras::premise_each-returns-clause-answer
extras::premise_each-returns-clause-answer = extras.premise_each-returns-clause-answer

pub extras::by_premise-returns-in_err-ins-clause-answer : goal.extras::by_premise-returns-in_err-ins-clause-answer
extras::by_premise-returns-in_err-ins-clause-answer = extras.by_premise-returns-in_err-ins-clause-answer

pub extras::by_premise-returns-in_err-found-clause-answer : goal.extras::by_premise-returns-in_err-found-clause-answer
extras::by_premise-returns-in_err-found-clause-answer = extras.by_premise-returns-in_err-found-clause-answer

pub extras::by_premise-returns-clause-answer : goal.extras::by_premise-returns-clause-answer
extras::by_premise-returns-clause-answer = extras.by_premise-returns-clause-answer

pub make_list-returns-in_err-t-clause-answer : goal.make_list-returns-in_err-t-clause-answer
make_list-returns-in_err-t-clause-answer = templates.make_list-returns-in_err-t-clause-answer

pub make_list-loop-template-preserved : goal.make_list-loop-template-preserved
make_list-loop-template-preserved = templates.make_list-loop-template-preserved

pub make_list-returns-clause-answer : goal.make_list-returns-clause-answer
make_list-returns-clause-answer = templates.make_list-returns-clause-answer

pub make-calls-init : goal.make-calls-init
make-calls-init = making.make-calls-init

pub make-returns-in_err-stage-clause-answer : goal.make-returns-in_err-stage-clause-answer
make-returns-in_err-stage-clause-answer = making.make-returns-in_err-stage-clause-answer

pub make-returns-in_err-t-in-Calls-clause-answer : goal.make-returns-in_err-t-in-Calls-clause-answer
make-returns-in_err-t-in-Calls-clause-answer = making.make-returns-in_err-t-in-Calls-clause-answer

pub make-returns-in-Ends-clause-answer : goal.make-returns-in-Ends-clause-answer
make-returns-in-Ends-clause-answer = making.make-returns-in-Ends-clause-answer

pub make-calls-preserved : goal.make-calls-preserved
make-calls-preserved = making.make-calls-preserved

pub make-calls-preserved-in_ok-t-in-Calls : goal.make-calls-preserved-in_ok-t-in-Calls
make-calls-preserved-in_ok-t-in-Calls = making.make-calls-preserved-in_ok-t-in-Calls

pub make-calls-preserved-in_ok-t-in-Calls-2 : goal.make-calls-preserved-in_ok-t-in-Calls-2
make-calls-preserved-in_ok-t-in-Calls-2 = making.make-calls-preserved-in_ok-t-in-Calls-2

pub make-calls-preserved-in_ok-t-in-Calls-3 : goal.make-calls-preserved-in_ok-t-in-Calls-3
make-calls-preserved-in_ok-t-in-Calls-3 = making.make-calls-preserved-in_ok-t-in-Calls-3

pub make-calls-smaller : goal.make-calls-smaller
make-calls-smaller = making.make-calls-smaller

use Rattle.rdx_grammar.proofs.Examples.{inherits_in_place, least_check_first, asks_in_language, recursion_first, crosses_loop}
use Rattle.rdx_grammar.proofs.laws.worked_examples.Goals as goal

pub returns-clause-extension : goal.returns-clause-extension
returns-clause-extension c = inherits_in_place

pub returns-clause-refusal : goal.returns-clause-refusal
returns-clause-refusal c = least_check_first

pub returns-clause-asks_in_language : goal.returns-clause-asks_in_language
returns-clause-asks_in_language c = asks_in_language

pub returns-clause-recursion_first : goal.returns-clause-recursion_first
returns-clause-recursion_first c = recursion_first

pub returns-clause-crosses_loop : goal.returns-clause-crosses_loop
returns-clause-crosses_loop c = crosses_loop

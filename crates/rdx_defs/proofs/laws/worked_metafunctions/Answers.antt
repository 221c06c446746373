use Rattle.rdx_defs.proofs.FormExamples.{closes_contract, calls_another, other_name_refused, named_clause_refused, function_head, function_shape, function_language}
use Rattle.rdx_defs.proofs.laws.worked_metafunctions.Goals as goal

pub returns-clause-contract : goal.returns-clause-contract
returns-clause-contract c = closes_contract

pub returns-clause-calls : goal.returns-clause-calls
returns-clause-calls c = calls_another

pub returns-clause-other_name : goal.returns-clause-other_name
returns-clause-other_name c = other_name_refused

pub returns-clause-named_clause : goal.returns-clause-named_clause
returns-clause-named_clause c = named_clause_refused

pub returns-clause-head : goal.returns-clause-head
returns-clause-head c = function_head

pub returns-clause-shape : goal.returns-clause-shape
returns-clause-shape c = function_shape

pub returns-clause-language : goal.returns-clause-language
returns-clause-language c = function_language

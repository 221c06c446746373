use Rattle.rdx_defs.proofs.FormExamples.{ahead_means, behind_means, sees_no_output, confirms_term, divides_contract, conclusion_refused, no_mode_refused, unknown_refused, judgement_head, judgement_language, judgement_shape}
use Rattle.rdx_defs.proofs.laws.worked_judgements.Goals as goal

pub returns-clause-ahead : goal.returns-clause-ahead
returns-clause-ahead c = ahead_means

pub returns-clause-behind : goal.returns-clause-behind
returns-clause-behind c = behind_means

pub returns-clause-own_output : goal.returns-clause-own_output
returns-clause-own_output c = sees_no_output

pub returns-clause-side_condition : goal.returns-clause-side_condition
returns-clause-side_condition c = confirms_term

pub returns-clause-contract : goal.returns-clause-contract
returns-clause-contract c = divides_contract

pub returns-clause-conclusion : goal.returns-clause-conclusion
returns-clause-conclusion c = conclusion_refused

pub returns-clause-no_mode : goal.returns-clause-no_mode
returns-clause-no_mode c = no_mode_refused

pub returns-clause-unknown_first : goal.returns-clause-unknown_first
returns-clause-unknown_first c = unknown_refused

pub returns-clause-head : goal.returns-clause-head
returns-clause-head c = judgement_head

pub returns-clause-language : goal.returns-clause-language
returns-clause-language c = judgement_language

pub returns-clause-shape : goal.returns-clause-shape
returns-clause-shape c = judgement_shape

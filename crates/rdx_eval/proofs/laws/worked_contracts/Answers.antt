use Rattle.rdx_eval.proofs.ContractExamples.{domain_refuses, range_refuses, range_allows, ambiguous_first, inputs_refused, outputs_refused, outputs_allowed, refused_before_later, refused_behind_earlier}
use Rattle.rdx_eval.proofs.laws.worked_contracts.Goals as goal

pub returns-clause-domain_refuses : goal.returns-clause-domain_refuses
returns-clause-domain_refuses c = domain_refuses

pub returns-clause-range_refuses : goal.returns-clause-range_refuses
returns-clause-range_refuses c = range_refuses

pub returns-clause-range_allows : goal.returns-clause-range_allows
returns-clause-range_allows c = range_allows

pub returns-clause-ambiguous_first : goal.returns-clause-ambiguous_first
returns-clause-ambiguous_first c = ambiguous_first

pub returns-clause-inputs_refused : goal.returns-clause-inputs_refused
returns-clause-inputs_refused c = inputs_refused

pub returns-clause-outputs_refused : goal.returns-clause-outputs_refused
returns-clause-outputs_refused c = outputs_refused

pub returns-clause-outputs_allowed : goal.returns-clause-outputs_allowed
returns-clause-outputs_allowed c = outputs_allowed

pub returns-clause-refused_before_later : goal.returns-clause-refused_before_later
returns-clause-refused_before_later c = refused_before_later

pub returns-clause-refused_behind_earlier : goal.returns-clause-refused_behind_earlier
returns-clause-refused_behind_earlier c = refused_behind_earlier

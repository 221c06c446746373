use Rattle.rdx_relations.proofs.FormExamples.{goes_on, one_each, put_in_stays, plain_stays, other_head_refused, same_refused, again_refused, later_refused}
use Rattle.rdx_relations.proofs.laws.worked_shorthand.Goals as goal

pub returns-clause-goes_on : goal.returns-clause-goes_on
returns-clause-goes_on c = goes_on

pub returns-clause-one_each : goal.returns-clause-one_each
returns-clause-one_each c = one_each

pub returns-clause-put_in : goal.returns-clause-put_in
returns-clause-put_in c = put_in_stays

pub returns-clause-plain : goal.returns-clause-plain
returns-clause-plain c = plain_stays

pub returns-clause-head : goal.returns-clause-head
returns-clause-head c = other_head_refused

pub returns-clause-same_symbol : goal.returns-clause-same_symbol
returns-clause-same_symbol c = same_refused

pub returns-clause-again : goal.returns-clause-again
returns-clause-again c = again_refused

pub returns-clause-later : goal.returns-clause-later
returns-clause-later c = later_refused

use Rattle.rdx_relations.proofs.FormExamples.{binds_behind, makes_fresh, head_refused, language_refused, shape_refused, name_refused, arrow_refused, extra_refused, result_refused, clash_refused, fresh_refused}
use Rattle.rdx_relations.proofs.laws.worked_relations.Goals as goal

pub returns-clause-binds_behind : goal.returns-clause-binds_behind
returns-clause-binds_behind c = binds_behind

pub returns-clause-makes : goal.returns-clause-makes
returns-clause-makes c = makes_fresh

pub returns-clause-head : goal.returns-clause-head
returns-clause-head c = head_refused

pub returns-clause-language : goal.returns-clause-language
returns-clause-language c = language_refused

pub returns-clause-shape : goal.returns-clause-shape
returns-clause-shape c = shape_refused

pub returns-clause-name : goal.returns-clause-name
returns-clause-name c = name_refused

pub returns-clause-arrow : goal.returns-clause-arrow
returns-clause-arrow c = arrow_refused

pub returns-clause-extra : goal.returns-clause-extra
returns-clause-extra c = extra_refused

pub returns-clause-shallow : goal.returns-clause-shallow
returns-clause-shallow c = result_refused

pub returns-clause-clash : goal.returns-clause-clash
returns-clause-clash c = clash_refused

pub returns-clause-bound_before : goal.returns-clause-bound_before
returns-clause-bound_before c = fresh_refused

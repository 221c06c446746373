use Rattle.rdx_lang.proofs.JoinLaws.{join_agrees}
use Rattle.rdx_lang.proofs.Joins.{join_exists}
use Rattle.rdx_lang.proofs.laws.join_exists.Goals as goal

pub returns-clause-only : goal.returns-clause-only
returns-clause-only c = join_agrees

pub returns-clause-always : goal.returns-clause-always
returns-clause-always c = join_exists

use Rattle.rdx_lang.proofs.Emptiness.{whole_is_empty, empty_splits_all, empty_is_decided}
use Rattle.rdx_lang.proofs.laws.empty_patterns.Goals as goal

pub returns-clause-only : goal.returns-clause-only
returns-clause-only c = whole_is_empty

pub returns-clause-always : goal.returns-clause-always
returns-clause-always c = empty_splits_all

pub returns-clause-decided : goal.returns-clause-decided
returns-clause-decided c = empty_is_decided

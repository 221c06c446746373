use Rattle.rdx_patterns.proofs.Examples.{reads_mismatch, reads_other_mismatch, reads_later_mark, no_such_mismatch, no_mismatch_ellipsis, no_mismatch_bound}
use Rattle.rdx_patterns.proofs.laws.mismatch_examples.Goals as goal

pub returns-clause-reads_mismatch : goal.returns-clause-reads_mismatch
returns-clause-reads_mismatch c = reads_mismatch

pub returns-clause-reads_other_mismatch : goal.returns-clause-reads_other_mismatch
returns-clause-reads_other_mismatch c = reads_other_mismatch

pub returns-clause-reads_later_mark : goal.returns-clause-reads_later_mark
returns-clause-reads_later_mark c = reads_later_mark

pub returns-clause-no_such_mismatch : goal.returns-clause-no_such_mismatch
returns-clause-no_such_mismatch c = no_such_mismatch

pub returns-clause-no_mismatch_ellipsis : goal.returns-clause-no_mismatch_ellipsis
returns-clause-no_mismatch_ellipsis c = no_mismatch_ellipsis

pub returns-clause-no_mismatch_bound : goal.returns-clause-no_mismatch_bound
returns-clause-no_mismatch_bound c = no_mismatch_bound

use Rattle.rdx_patterns.proofs.OneReading.{one_pattern, one_pattern_refusal, never_both_pattern, never_neither_pattern}
use Rattle.rdx_patterns.proofs.laws.one_pattern.Goals as goal

pub returns-clause-pattern : goal.returns-clause-pattern
returns-clause-pattern c = one_pattern

pub returns-clause-refusal : goal.returns-clause-refusal
returns-clause-refusal c = one_pattern_refusal

pub returns-clause-never_both : goal.returns-clause-never_both
returns-clause-never_both c = never_both_pattern

pub returns-clause-never_neither : goal.returns-clause-never_neither
returns-clause-never_neither c = never_neither_pattern

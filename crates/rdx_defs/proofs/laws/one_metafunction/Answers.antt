use Rattle.rdx_defs.proofs.OneForm.{one_metafunction, one_metafunction_refusal, never_both_metafunction, never_neither_metafunction}
use Rattle.rdx_defs.proofs.laws.one_metafunction.Goals as goal

pub returns-clause-metafunction : goal.returns-clause-metafunction
returns-clause-metafunction c = one_metafunction

pub returns-clause-refusal : goal.returns-clause-refusal
returns-clause-refusal c = one_metafunction_refusal

pub returns-clause-never_both : goal.returns-clause-never_both
returns-clause-never_both c = never_both_metafunction

pub returns-clause-never_neither : goal.returns-clause-never_neither
returns-clause-never_neither c = never_neither_metafunction

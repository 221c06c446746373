use Rattle.rdx_defs.proofs.OneForm.{one_judgement, one_judgement_refusal, never_both_judgement, never_neither_judgement}
use Rattle.rdx_defs.proofs.laws.one_judgement.Goals as goal

pub returns-clause-one : goal.returns-clause-one
returns-clause-one c = one_judgement

pub returns-clause-one_refusal : goal.returns-clause-one_refusal
returns-clause-one_refusal c = one_judgement_refusal

pub returns-clause-never_both : goal.returns-clause-never_both
returns-clause-never_both c = never_both_judgement

pub returns-clause-never_neither : goal.returns-clause-never_neither
returns-clause-never_neither c = never_neither_judgement

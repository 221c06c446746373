use Rattle.rdx_templates.proofs.OneReading.{one_host, one_host_refusal, never_both_host, never_neither_host}
use Rattle.rdx_templates.proofs.laws.one_host.Goals as goal

pub returns-clause-host : goal.returns-clause-host
returns-clause-host c = one_host

pub returns-clause-refusal : goal.returns-clause-refusal
returns-clause-refusal c = one_host_refusal

pub returns-clause-never_both : goal.returns-clause-never_both
returns-clause-never_both c = never_both_host

pub returns-clause-never_neither : goal.returns-clause-never_neither
returns-clause-never_neither c = never_neither_host

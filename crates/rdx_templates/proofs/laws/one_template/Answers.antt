use Rattle.rdx_templates.proofs.OneReading.{one_template, one_template_refusal, never_both_template, never_neither_template}
use Rattle.rdx_templates.proofs.laws.one_template.Goals as goal

pub returns-clause-template : goal.returns-clause-template
returns-clause-template c = one_template

pub returns-clause-refusal : goal.returns-clause-refusal
returns-clause-refusal c = one_template_refusal

pub returns-clause-never_both : goal.returns-clause-never_both
returns-clause-never_both c = never_both_template

pub returns-clause-never_neither : goal.returns-clause-never_neither
returns-clause-never_neither c = never_neither_template

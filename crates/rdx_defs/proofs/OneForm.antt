-- A datum is one metafunction at most, or it has one refusal as one; and so it is with judgements.
use Rattle.std.proofs.Common.{sym, ap, ◌∙◌}
use Rattle.rdx_patterns.specs.Refusal.{unnamed, refusal_of}
use Rattle.rdx_patterns.specs.declared.shape.fault.DefKind.TheVariants.{Shape}
use Rattle.rdx_defs.specs.JudgementForms.{judgement_form}
use Rattle.rdx_defs.specs.JudgementLaws.{OneJudgement, OneJudgementRefusal, NeverBothJudgement, NeverNeitherJudgement}
use Rattle.rdx_defs.specs.JudgementReading.{judgement_reading}
use Rattle.rdx_defs.specs.JudgementRefusal.{judgement_refusal}
use Rattle.rdx_defs.specs.MetafunctionForms.{metafunction_form}
use Rattle.rdx_defs.specs.MetafunctionLaws.{OneMetafunction, OneMetafunctionRefusal, NeverBothMetafunction, NeverNeitherMetafunction}
use Rattle.rdx_defs.specs.MetafunctionReading.{metafunction_reading}
use Rattle.rdx_defs.specs.MetafunctionRefusal.{metafunction_refusal}
use Rattle.rdx_defs.proofs.FormRefusals.{no-metafunction, no-judgement}
use Rattle.rdx_templates.proofs.OneReading.{same_some, not_some}
use Rattle.rdx_relations.proofs.OneForm.{there_or_refused}

-- ---- metafunctions

pub one_metafunction : OneMetafunction
one_metafunction S ns d f g a b = a.is_read ∙ ap (metafunction_reading S ns) (same_some (metafunction_form d) a.parts b.parts a.is_form b.is_form) ∙ sym b.is_read

pub one_metafunction_refusal : OneMetafunctionRefusal
one_metafunction_refusal S ns d r q e f = same_some (metafunction_refusal S ns d) (refusal_of r) (refusal_of q) e f

pub never_both_metafunction : NeverBothMetafunction
never_both_metafunction S ns d f q a e = not_some (metafunction_refusal S ns d) (refusal_of q) a.passes e

pub never_neither_metafunction : NeverNeitherMetafunction
never_neither_metafunction S ns d = there_or_refused (metafunction_form d) (metafunction_refusal S ns d) (unnamed Shape d) (no-metafunction S ns d)

-- ---- judgements

pub one_judgement : OneJudgement
one_judgement S ns d j k a b = a.is_read ∙ ap (judgement_reading S ns) (same_some (judgement_form d) a.parts b.parts a.is_form b.is_form) ∙ sym b.is_read

pub one_judgement_refusal : OneJudgementRefusal
one_judgement_refusal S ns d r q e f = same_some (judgement_refusal S ns d) (refusal_of r) (refusal_of q) e f

pub never_both_judgement : NeverBothJudgement
never_both_judgement S ns d j q a e = not_some (judgement_refusal S ns d) (refusal_of q) a.passes e

pub never_neither_judgement : NeverNeitherJudgement
never_neither_judgement S ns d = there_or_refused (judgement_form d) (judgement_refusal S ns d) (unnamed Shape d) (no-judgement S ns d)

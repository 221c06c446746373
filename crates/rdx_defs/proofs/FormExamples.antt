-- The worked examples of metafunctions and of judgements.
use Rattle.std.proofs.Common.{refl}
use Rattle.std.specs.Str.{chars}
use Rattle.rdx_defs.specs.JudgementExamples as judgements
use Rattle.rdx_defs.specs.JudgementExamples.{AheadMeans, BehindMeans, SeesNoOutput, ConfirmsTerm, DividesContract, ConclusionRefused, NoModeRefused, UnknownRefused}
use Rattle.rdx_defs.specs.MetafunctionExamples as metafunctions
use Rattle.rdx_defs.specs.MetafunctionExamples.{ClosesContract, CallsAnother, OtherNameRefused, NamedClauseRefused}

-- ---- metafunctions

pub closes_contract : ClosesContract
unfolding chars
closes_contract s = record { passes = refl; parts = _; is_form = refl; is_read = refl }

pub calls_another : CallsAnother
unfolding chars
calls_another s = record { passes = refl; parts = _; is_form = refl; is_read = refl }

pub other_name_refused : OtherNameRefused
unfolding chars
other_name_refused = refl

pub named_clause_refused : NamedClauseRefused
unfolding chars
named_clause_refused = refl

pub function_head : metafunctions.HeadRefused
unfolding chars
function_head = refl

pub function_shape : metafunctions.ShapeRefused
unfolding chars
function_shape = refl

pub function_language : metafunctions.LanguageRefused
unfolding chars
function_language = refl

-- ---- judgements

pub ahead_means : AheadMeans
unfolding chars
ahead_means s = record { passes = refl; parts = _; is_form = refl; is_read = refl }

pub behind_means : BehindMeans
unfolding chars
behind_means s = record { passes = refl; parts = _; is_form = refl; is_read = refl }

pub sees_no_output : SeesNoOutput
unfolding chars
sees_no_output s = record { passes = refl; parts = _; is_form = refl; is_read = refl }

pub confirms_term : ConfirmsTerm
unfolding chars
confirms_term s = record { passes = refl; parts = _; is_form = refl; is_read = refl }

pub divides_contract : DividesContract
unfolding chars
divides_contract s = record { passes = refl; parts = _; is_form = refl; is_read = refl }

pub conclusion_refused : ConclusionRefused
unfolding chars
conclusion_refused = refl

pub no_mode_refused : NoModeRefused
unfolding chars
no_mode_refused = refl

pub unknown_refused : UnknownRefused
unfolding chars
unknown_refused = refl

pub judgement_head : judgements.HeadRefused
unfolding chars
judgement_head = refl

pub judgement_language : judgements.LanguageRefused
unfolding chars
judgement_language = refl

pub judgement_shape : judgements.ShapeRefused
unfolding chars
judgement_shape = refl

use Rattle.std.proofs.Common.{◌≡◌, length}
use Rattle.rdx_defs.specs.Inside.FormViews.{paired}
use Rattle.rdx_defs.specs.JudgementForms.{given_by}
use Rattle.rdx_defs.proofs.judgements.forms.given_by.Given as goal

abbrev pub invariant-loop-option : goal.invariant-loop-option
invariant-loop-option l = given_by l.word (paired l.options) ≡ given_by l.word (paired l.left)

abbrev pub decreases-loop-option : goal.decreases-loop-option
decreases-loop-option l = length l.left

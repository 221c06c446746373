use Rattle.std.proofs.Common.{◌≡◌, [], Some, length}
use Rattle.rdx_defs.specs.Inside.FormViews.{keys_of, paired}
use Rattle.rdx_defs.specs.JudgementForms.{are_fit_options}
use Rattle.rdx_defs.proofs.scopes.are_fit_options.Given as goal

abbrev pub invariant-loop-option : goal.invariant-loop-option
invariant-loop-option l = are_fit_options (Some l.judgement) (keys_of l.seen.items) (paired l.left) ≡ are_fit_options (Some l.judgement) [] (paired l.options)

abbrev pub decreases-loop-option : goal.decreases-loop-option
decreases-loop-option l = length l.left

use Rattle.std.proofs.Common.{◌≡◌, length}
use Rattle.rdx_forms.specs.Options as model
use Rattle.rdx_forms.specs.Inside.OptionViews.{kind_of}
use Rattle.rdx_forms.proofs.options.option_value.Given as goal

abbrev pub invariant-loop-rest : goal.invariant-loop-rest
invariant-loop-rest l = model.option_number (kind_of l.fn.kind) l.rest ≡ model.option_number (kind_of l.fn.kind) l.fn.items

abbrev pub decreases-loop-rest : goal.decreases-loop-rest
decreases-loop-rest l = length l.rest

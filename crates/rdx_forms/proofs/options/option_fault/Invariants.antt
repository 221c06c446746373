use Rattle.std.proofs.Common.{◌≡◌, length, option_map}
use Rattle.rdx_templates.specs.Earliest.{earliest, lesser, start}
use Rattle.rdx_forms.specs.Options as model
use Rattle.rdx_forms.specs.Inside.OptionViews.{kinds_of}
use Rattle.rdx_forms.proofs.options.option_fault.Given as goal

abbrev pub invariant-loop-rest : goal.invariant-loop-rest
invariant-loop-rest l =
    lesser start (option_map (λ d. d.now) l.least) (earliest start (model.option_faults (kinds_of l.left) l.rest))
    ≡ earliest start (model.option_faults (kinds_of l.fn.allowed) l.fn.items)

abbrev pub decreases-loop-rest : goal.decreases-loop-rest
decreases-loop-rest l = length l.rest

use Rattle.std.proofs.Common.{sym, ap, ◌∙◌, option_map}
use Rattle.rdx_forms.proofs.OptionFaults.{nothing-at-fault}
use Rattle.rdx_forms.proofs.generate_forms.refuse_number.Goals as goal

pub returns-in-None : goal.returns-in-None
returns-in-None c = λ ds e. nothing-at-fault ds (ap (option_map (λ d. d.now)) (sym c.in-None.is) ∙ e)

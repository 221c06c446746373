use Rattle.rdx_term.specs.View.{tree_of}
use Rattle.rdx_eval.specs.Views.{terms_in}
use Rattle.rdx_eval.proofs.WithinLimits.{list_within}
use Rattle.rdx_deriv.proofs.FoundOnce.{list_alone}
use Rattle.rdx_deriv.proofs.making.listed.Goals as goal

pub returns-in-Ok : goal.returns-in-Ok
returns-in-Ok c =
    list_alone (terms_in c.args.items) (tree_of c.in-Ok.t) (list_within (terms_in c.args.items) (tree_of c.in-Ok.t) c.in-Ok.ensures.ok
    (λ h. let k = c.in-Ok.ensures.too_deep.1 h in absurd cc) (λ h. let k = c.in-Ok.ensures.too_large.1 h in absurd cc))

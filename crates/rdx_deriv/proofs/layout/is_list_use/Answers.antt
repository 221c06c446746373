use Rattle.rdx_lang.specs.Shown.{binding_of}
use Rattle.rdx_deriv.proofs.layout.is_list_use.Goals as goal

pub returns-in_default-clause-complete : goal.returns-in_default-clause-complete
returns-in_default-clause-complete c h u = absurd ((rw c.in_default.is at c.in_ok-parts.ensures.none) h (binding_of c.args.b.now) u)

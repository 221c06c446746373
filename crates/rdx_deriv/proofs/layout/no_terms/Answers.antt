use Rattle.rdx_deriv.proofs.Going.{terms_none}
use Rattle.rdx_deriv.proofs.layout.no_terms.Goals as goal

pub returns : goal.returns
returns c = terms_none c.is_empty.result c.args.terms.now c.is_empty.ensures

use Rattle.rdx_sexp.proofs.Once.{fault_once}
use Rattle.rdx_sexp.proofs.laws.one_fault.Goals as goal

pub returns : goal.returns
returns c bytes r q f g = fault_once bytes r q f g

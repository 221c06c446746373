use Rattle.rdx_sexp.proofs.Once.{data_or_fault}
use Rattle.rdx_sexp.proofs.laws.data_or_fault.Goals as goal

pub returns : goal.returns
returns c bytes ds r reads f = data_or_fault bytes ds r reads f

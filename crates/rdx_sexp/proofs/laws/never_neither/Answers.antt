use Rattle.rdx_sexp.proofs.Always.{never_neither}
use Rattle.rdx_sexp.proofs.laws.never_neither.Goals as goal

pub returns : goal.returns
returns c = never_neither

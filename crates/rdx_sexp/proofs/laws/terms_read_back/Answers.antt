use Rattle.rdx_sexp.proofs.PrintedTrees.{ReadsBack-term}
use Rattle.rdx_sexp.proofs.laws.terms_read_back.Goals as goal

pub returns : goal.returns
returns c = ReadsBack-term

use Rattle.rdx_sexp.proofs.PrintedData.{data_read_back}
use Rattle.rdx_sexp.proofs.laws.data_read_back.Goals as goal

pub returns : goal.returns
returns c = data_read_back

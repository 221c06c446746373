use Rattle.rdx_sexp.proofs.Once.{reading_once}
use Rattle.rdx_sexp.proofs.laws.one_reading.Goals as goal

pub returns : goal.returns
returns c bytes ds es r s = reading_once bytes ds es r s

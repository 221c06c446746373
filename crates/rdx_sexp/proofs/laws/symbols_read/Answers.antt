use Rattle.rdx_sexp.specs.Laws.{whole_span}
use Rattle.rdx_sexp.proofs.SymbolsRead.{symbol_read, symbol_spelled}
use Rattle.rdx_sexp.proofs.laws.symbols_read.Goals as goal

pub returns : goal.returns
returns c bytes = (λ x. symbol_read bytes x.0 x.1, λ r. symbol_spelled bytes (whole_span bytes) r)

use Rattle.rdx_sexp.proofs.Fronts.{ends_front}
use Rattle.rdx_sexp.proofs.laws.faults_end_fronts.Goals as goal

pub returns : goal.returns
returns c = ends_front

use Rattle.rdx_cli.proofs.OneFile.{one_file}
use Rattle.rdx_cli.proofs.laws.one_file.Goals as goal

pub returns : goal.returns
returns c all bytes other rest last a b = one_file all bytes other rest last a b

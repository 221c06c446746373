use Rattle.rdx_cli.proofs.OneRow.{one_row}
use Rattle.rdx_cli.proofs.laws.one_row.Goals as goal

pub returns : goal.returns
returns c words row other a b = one_row words row other a b

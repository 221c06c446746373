use Rattle.rdx_cli.proofs.OneOutcome.{one_outcome}
use Rattle.rdx_cli.proofs.laws.one_outcome.Goals as goal

pub returns : goal.returns
returns c words all text other rest last verdict end n a b =
    one_outcome c.one_row.ensures c.one_file.ensures c.one_transcript.ensures words all text other rest last verdict end n a b

use Rattle.rdx_cli.proofs.WhyRuns.{why_is_run}
use Rattle.rdx_cli.proofs.laws.why_is_run.Goals as goal

pub returns : goal.returns
returns c = why_is_run

use Rattle.std.proofs.Common.{◌∙◌}
use Rattle.rdx_parts.proofs.ArgumentLists.{conclusion-flags}
use Rattle.rdx_parts.proofs.arguments.in_conclusion.Goals as goal

pub returns : goal.returns
returns c i = record { flags = (conclusion-flags c.fitting.result ∙ c.fitting.ensures) i; items = c.args.arguments.now }
